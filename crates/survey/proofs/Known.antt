-- What is known of a record that was not refused: its kind, that it has its place, and what it says. Assumes nothing.
use Rattle.std.proofs.Common.{◌≡◌, ℕ, ◌<◌, Bool, true, false, cond, Some, None, Ok, Err, Option, refl, arith}
use Rattle.std.proofs.lemmas.Bool.Decides.{nat_tests}
use Rattle.tube.specs.declared.fault.MakingFault.{MakingFault}
use Rattle.swimlog.specs.Records.{Said, said_fault, kind_of, places, is_placed, says, if_makeable, made, if_known, record_says}
use Rattle.swimlog.specs.declared.fault.RecordFault.TheVariants.{BadPlace}
use Rattle.swimlog.specs.declared.field.Head.{Head}
use Rattle.swimlog.specs.declared.field.Body.{Body}
use Rattle.swimlog.specs.declared.kind.Kind.{Kind}

pub record Known (gates number : ℕ) (h : Head) (b : Body) (o : Option Kind) (said : Said) : Type 0 where
  pub kind : Kind
  pub known : o ≡ Some kind
  pub placed : h.p < places gates kind
  pub is : said ≡ says gates number kind h b

makeable : (what said : Said) (o : Option MakingFault) → if_makeable what o ≡ Ok said → said ≡ what
makeable what said (Some e) made = let z : ◌≡◌ {A = ℕ} 0 1 = cc in absurd (omega arith)
makeable what said None made = cc

module _ (gates number : ℕ) (h : Head) (b : Body) (said : Said) where
  by_place : (kind : Kind) (placed : Bool) → is_placed gates kind h b ≡ placed → cond placed (made (says gates number kind h b)) (Err BadPlace) ≡ Ok said → Known gates number h b (Some kind) said
  by_place kind true placed ok = record {
    kind = kind;
    known = refl;
    placed = grind (arith, nat_tests);
    is = makeable (says gates number kind h b) said (said_fault (says gates number kind h b)) ok;
  }
  by_place kind false placed ok = let z : ◌≡◌ {A = ℕ} 0 1 = cc in absurd (omega arith)

  by_kind : (o : Option Kind) → if_known gates number o h b ≡ Ok said → Known gates number h b o said
  by_kind (Some kind) ok = by_place kind (is_placed gates kind h b) refl ok
  by_kind None ok = let z : ◌≡◌ {A = ℕ} 0 1 = cc in absurd (omega arith)

  pub what_is_known : record_says gates number h b ≡ Ok said → Known gates number h b (kind_of h.kind h.axis) said
  what_is_known ok = by_kind (kind_of h.kind h.axis) ok
