-- Laws for the loops that give a list of answers: one answer more, and none left. Assumes nothing.
use Rattle.std.proofs.Common.{◌≡◌, refl, ℕ, ◌+◌, ◌≤◌, ◌<◌, List, length, get_or, take, drop, drop-cons, add-one, Float}
use Rattle.std.proofs.lemmas.List.{drop_all}
use Rattle.model.specs.Refusals.{Reply}
use Rattle.machine.specs.Keeping.{Machine}
use Rattle.values.specs.Feeding.{Stands, fed, next, reply_in, width}

-- of the list ks, of which i answers are given; xs are the places left, s is where the run stands
module _ (m : Machine) (ks : List ℕ) (i : ℕ) (xs : List Float) (s : Stands m) where
  -- the answer a with the vector v, behind which ys are left, leads to t
  pub fed_next : (a : Reply) (v ys : List Float) (t : Stands m) → i < length ks → a ≡ reply_in (get_or ks i 0) xs → v ≡ take (get_or ks i 0) xs → ys ≡ drop (width (get_or ks i 0)) xs → t ≡ next m s a v
      → fed m (drop (i + 1) ks) ys t ≡ fed m (drop i ks) xs s
  unfolding fed
  fed_next a v ys t h p q r n = rw (drop-cons ks i 0 h, add-one i, n, p, q, r) refl

  pub fed_done : length ks ≤ i → s ≡ fed m (drop i ks) xs s
  unfolding fed
  fed_done h = rw (drop_all i ks h) refl
