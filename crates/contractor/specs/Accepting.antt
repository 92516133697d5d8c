-- When a use is not refused, taken apart and put together. Assumes nothing.
use Rattle.std.specs.Prelude.{◌≡◌, ◌≤◌, true, List, length}
use Rattle.std.proofs.Common.{sym, subst, arith}
use Rattle.std.proofs.lemmas.Bool.Decides.{nat_tests}
use Rattle.tube.specs.Tubes.{is_tube, Inside}
use Rattle.tube.specs.declared.row.Row.{Row}
use Rattle.tube.proofs.Insides.{inside_length}
use Rattle.contractor.specs.Contractors.{Value, Narrowed, Accepted, Fair, Keeps}
use Rattle.contractor.specs.Refusals.{most_layers, most_calls}

-- what is known of a contractor and a tube that it is not refused on
pub record Accepts (v : Value) (t : List Row) : Type 0 where
  pub tube : is_tube t ≡ true
  pub need : v.need ≤ length t
  pub height : v.height ≤ most_layers
  pub ceiling : v.ceiling ≤ most_calls

pub accepted_facts : (v : Value) (t : List Row) → Accepted v t → Accepts v t
accepted_facts v t a = record { tube = grind (arith, nat_tests); need = grind (arith, nat_tests); height = grind (arith, nat_tests); ceiling = grind (arith, nat_tests) }

pub accepted_from : (v : Value) (t : List Row) → Accepts v t → Accepted v t
accepted_from v t f = record { free = grind (arith, nat_tests) }

-- a contractor that is not refused on a tube is not refused on what a use leaves of it
pub accepted_inside : (v : Value) (t u : List Row) → Accepted v t → is_tube u ≡ true → Inside u t → Accepted v u
accepted_inside v t u a good inside =
    let f = accepted_facts v t a in
    let l = inside_length u t inside in
    accepted_from v u (record { tube = good; need = omega arith; height = f.height; ceiling = f.ceiling })

-- a use that answers as its contractor's value does is fair
pub used_fair : (v : Value) (t : List Row) (u : Narrowed) → Keeps v → Accepted v t → u ≡ v.narrowed t → Fair v t u
used_fair v t u k a told = subst (Fair v t) (sym told) (k.fair t a)
