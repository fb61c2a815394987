-- The structs of psi and d_psi, whose calls each have one contract. Definitions only.
use Rattle.std.specs.Float.{binary64}
use Rattle.machine.specs.PsiCalls.{psi_answer_any, d_psi_answer_any}
use Rattle.claim.specs.ForC.{Structs}
use Rattle.claim.specs.Psi.{psi_runs, d_psi_runs}
use Rattle.alm_factory_c.specs.declared.psi.PsiC.{PsiC}
use Rattle.alm_factory_c.specs.declared.d_psi.DPsiC.{DPsiC}
use Rattle.alm_factory_c.specs.Fields.{psi_of, PsiLeaves, d_psi_of, DPsiLeaves}

abbrev pub psi_c : Structs (psi_runs binary64)
psi_c =
    record {
      Struct = PsiC;
      run = psi_of;
      Leaves = λ was c. PsiLeaves c.reply c.vector was c.run c.number;
      tells = λ was c. (psi_answer_any binary64 c.reply c.vector (psi_of was)).told;
    }

abbrev pub d_psi_c : Structs (d_psi_runs binary64)
d_psi_c =
    record {
      Struct = DPsiC;
      run = d_psi_of;
      Leaves = λ was c. DPsiLeaves c.reply c.vector c.lent c.wrote was c.run c.number;
      tells = λ was c. (d_psi_answer_any binary64 c.reply c.vector c.lent (d_psi_of was)).told;
    }
