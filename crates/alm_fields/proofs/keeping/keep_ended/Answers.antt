use Rattle.alm_fields.proofs.Kept.{ends_so, refuses_so, fails_so, says_so}
use Rattle.alm_fields.proofs.keeping.keep_ended.Goals as goal

pub returns-in-Ended : goal.returns-in-Ended
returns-in-Ended c = λ l. ends_so c.args.inner.now _ c.args.alm.now _ l c.args.outcome _ _ c.in-Ended.is c.status_number.ensures c.tell.ensures.inner c.tell.ensures.alm

pub returns-in-Refused : goal.returns-in-Refused
returns-in-Refused c = λ l. refuses_so c.args.inner.now c.keep_refused.new.inner c.args.alm.now c.keep_refused.new.alm l c.args.outcome _ _ c.in-Refused.is (c.keep_refused.ensures l)

pub returns-in-Failed : goal.returns-in-Failed
returns-in-Failed c = λ l. fails_so c.args.inner.now _ c.args.alm.now _ l c.args.outcome _ c.in-Failed.is c.tell-in-Failed.ensures.inner c.tell-in-Failed.ensures.alm

pub returns-in-Asked : goal.returns-in-Asked
returns-in-Asked c = λ l. says_so c.args.inner.now _ c.args.alm.now _ l c.args.outcome _ _ c.in-Asked.is c.question_number.ensures c.tell-in-Asked.ensures.inner c.tell-in-Asked.ensures.alm
