-- What follows from making a constraint that was said. Assumes nothing.
use Rattle.std.proofs.Common.{◌≡◌, Some, None, Ok, Err, Result, sym, refl, subst}
use Rattle.tube.specs.declared.fault.MakingFault.{MakingFault}
use Rattle.constraint.specs.declared.constraint.Constraint.{Constraint}
use Rattle.swimlog.specs.Records.{Said, said_fault, Is, if_makeable, made, Reads}
use Rattle.swimlog.specs.declared.fault.RecordFault.{RecordFault}
use Rattle.swimlog.specs.declared.fault.RecordFault.TheVariants.{BadValue}

pub reads_made : (said : Said) (k : Constraint) → said_fault said ≡ None → Is said k → Reads (made said) (Ok k)
reads_made said k e h = subst (λ f. Reads (if_makeable said f) (Ok k)) (sym e) h

pub reads_refused : (said : Said) (e : MakingFault) (r : Result Constraint RecordFault) → said_fault said ≡ Some e → r ≡ Err (BadValue e) → Reads (made said) r
reads_refused said e r f refused = subst (λ g. Reads (if_makeable said g) r) (sym f) (subst (λ s. Reads (Err (BadValue e)) s) (sym refused) refl)
