-- Numbers past those that are named, and numbers that come in as they went out. Assumes nothing.
use Rattle.std.proofs.Common.{◌≡◌, refl, sym, ap, ◌∙◌, ℕ, zero, suc, ◌≤◌, arith}
use Rattle.std.proofs.Math.ListN.{get_or-eq_default}
use Rattle.machine.specs.LoopNumbers.{phase_number}
use Rattle.alm_engine.specs.declared.alm_cache.AlmPhase.{AlmPhase}
use Rattle.alm_engine.specs.declared.alm_cache.AlmPhase.TheVariants as P
use Rattle.alm_engine.specs.Values.{loop_phase_of}
use Rattle.alm_fields.specs.Fields.{phases, phase_at}

pub phase_past : (m : ℕ) → 8 ≤ m → P.Over ≡ phase_at m
phase_past m h = sym (get_or-eq_default phases _ {n = m} h)

pub phase_back : (p : AlmPhase) → phase_at (phase_number (loop_phase_of p)) ≡ p
phase_back P.Over = refl
phase_back P.Time = refl
phase_back P.ProjectY = refl
phase_back P.Inner = refl
phase_back P.F1 = refl
phase_back P.ProjectC = refl
phase_back P.F2 = refl
phase_back P.LastCost = refl

abbrev number : AlmPhase → ℕ
number p = phase_number (loop_phase_of p)

-- 3 alone is of the inner solve
pub inner_is : (m : ℕ) → phase_at m ≡ P.Inner → m ≡ 3
inner_is zero e = absurd (let z = ap number e in omega (arith, z))
inner_is (suc zero) e = absurd (let z = ap number e in omega (arith, z))
inner_is (suc (suc zero)) e = absurd (let z = ap number e in omega (arith, z))
inner_is (suc (suc (suc zero))) e = refl
inner_is (suc (suc (suc (suc zero)))) e = absurd (let z = ap number e in omega (arith, z))
inner_is (suc (suc (suc (suc (suc zero))))) e = absurd (let z = ap number e in omega (arith, z))
inner_is (suc (suc (suc (suc (suc (suc zero)))))) e = absurd (let z = ap number e in omega (arith, z))
inner_is (suc (suc (suc (suc (suc (suc (suc zero))))))) e = absurd (let z = ap number e in omega (arith, z))
inner_is (suc (suc (suc (suc (suc (suc (suc (suc m)))))))) e = let h : 8 ≤ suc (suc (suc (suc (suc (suc (suc (suc m))))))) = omega arith in absurd (let z = ap number (phase_past _ h ∙ e) in omega (arith, z))
