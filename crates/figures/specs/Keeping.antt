-- It keeps the meaning: it loses nothing, and there is nothing to decide. Assumes nothing.
use Rattle.std.specs.Prelude.{◌≡◌, ℕ, true}
use Rattle.std.proofs.Common.{arith}
use Rattle.std.proofs.lemmas.Bool.{true≢false}
use Rattle.std.proofs.lemmas.Bool.Decides.{nat_tests}
use Rattle.tube.proofs.Insides.{inside_same}
use Rattle.contractor.specs.Contractors.{Keeps}
use Rattle.contractor.specs.Accepting.{accepted_facts}
use Rattle.figures.specs.Idles.{are_figures, idle}

pub idle_keeps : (need height ceiling : ℕ) → are_figures need height ceiling ≡ true → Keeps (idle need height ceiling)
idle_keeps need height ceiling limited = record {
  fair = λ t a. record {
    tube = (accepted_facts (idle need height ceiling) t a).tube;
    inside = inside_same t;
    loses_none = λ p l o. (l, tt);
    decides = λ p one no'. absurd (true≢false no');
    calls = omega arith;
    placed = tt;
  };
  need = grind (arith, nat_tests);
  height = grind (arith, nat_tests);
  ceiling = grind (arith, nat_tests);
}
