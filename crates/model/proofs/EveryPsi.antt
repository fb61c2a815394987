-- Every way through d_psi: it hands back n numbers. Assumes nothing.
use Rattle.std.specs.Prelude.{◌≡◌, List, [], eqb, Float, length}
use Rattle.std.specs.Float.{Format}
use Rattle.model.specs.Psi.{Sizes, d_psi, d_psi_gradient, d_psi_f1, d_psi_c, d_psi_jf1, d_psi_ask_f2, d_psi_f2, d_psi_jf2}
use Rattle.model.proofs.Facts.{plus_times_size}
use Rattle.model.proofs.Paths.{along_cond}
use Rattle.model.specs.Plans.{Ends}

module _ (f : Format) (s : Sizes) (u : List Float) (c : Float) (y : List Float) where
  f2_ends : (g : List Float) → length g ≡ s.n → Ends (λ scores r. length r ≡ s.n) [] (d_psi_ask_f2 f s u c y g)
  unfolding d_psi_ask_f2 d_psi_f2 d_psi_jf2
  f2_ends g m = along_cond _ _ _ (eqb s.n2 0) _ _ (λ t. m) (λ t z q j r. plus_times_size f c s.n g j m r)

  pub d_psi_ends : Ends (λ scores g. length g ≡ s.n) [] (d_psi f s u c y)
  unfolding d_psi d_psi_gradient d_psi_f1 d_psi_c d_psi_jf1
  d_psi_ends =
      λ g m.
      along_cond _ _ _ (eqb s.n1 0) _ _ (λ t. f2_ends g m) (λ t w a p b j r. f2_ends _ (plus_times_size f c s.n g j m r))
