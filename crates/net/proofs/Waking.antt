-- The loop that lets records join, with a cursor for each of three cells. Assumes nothing.
use Rattle.std.proofs.Common.{◌≡◌, ℕ, ◌+◌, ◌<◌, ◌≤◌, min, true, List, [], ◌∷◌, length, get_or, sym, ap, ◌∙◌, subst, arith}
use Rattle.std.specs.Prelude.{Option}
use Rattle.net.specs.Nets.{among}
use Rattle.net.specs.Chains.{least_after, cursor, counted}
use Rattle.net.specs.Links.{slots_of, Chained, cell_of, stands, passed}
use Rattle.net.specs.Queues.{joined_by}
use Rattle.net.specs.declared.chains.Chains.TheInside.{Inside as Chains}
use Rattle.net.specs.declared.chains.Cursor.{Cursor}
use Rattle.net.specs.Cursors.{cursor_length, cursor_finds, cursor_same, cursor_next, least_counted, least_from}
use Rattle.net.proofs.Joined.{Joined, joined_start, joined_turn, joined_skip}

-- one cursor
module _ (css : List (List ℕ)) (o : Option ℕ) where
  -- it stands where it has to, from a position on
  abbrev pub Stands : ℕ → Cursor → Type 0
  Stands i now = now ≡ stands css o i

  stays : (i j : ℕ) (now : Cursor) → Stands i now → i ≤ j → j ≤ now.at → Stands j now
  stays i j now e h l =
      let there = ap (λ x. x.at) e in
      e ∙ ap (λ n. record { cell = cell_of o; at = n }) (sym (cursor_same css o i j h (omega arith)))

  passes : (i : ℕ) (now moved : Cursor) → Stands i now → i ≤ now.at → i < length css → moved ≡ passed css now i → Stands (i + 1) moved
  passes i now moved e above l m =
      let there = ap (λ x. x.at) e in
      m ∙ ap (λ x. passed css x i) e ∙ ap (λ n. record { cell = cell_of o; at = n }) (sym (cursor_next css o i i (omega arith) (omega arith) l))

  -- at a position it stands on a record that mentions its cell
  pub mentioned : (i : ℕ) (now : Cursor) → Stands i now → i < length css → now.at ≡ i → among now.cell (get_or css i []) ≡ true
  mentioned i now e l here =
      let there : cursor css o i ≡ i = sym (ap (λ x. x.at) e) ∙ here in
      ap (λ x. among x.cell (get_or css i [])) e ∙ subst (λ n. among (cell_of o) (get_or css n []) ≡ true) there (cursor_finds css o i (omega arith))

-- three cursors
module _ (css : List (List ℕ)) (a b c : Option ℕ) where
  abbrev pub those : List ℕ
  those = counted (a ∷ b ∷ c ∷ [])

  least_stands : (i : ℕ) → least_after css those i ≡ min (min (cursor css a i) (cursor css b i)) (cursor css c i)
  least_stands i =
      let first = least_counted css a (b ∷ c ∷ []) i in
      let second = least_counted css b (c ∷ []) i in
      let third = least_counted css c [] i in
      omega (arith, cursor_length css c i)

  -- the queue was q as the joining began, and is s now
  pub record Waking (q s : List ℕ) (first second third : Cursor) (next : ℕ) : Type 0 where
    pub joined : Joined css those q next s
    pub at_first : Stands css a next first
    pub at_second : Stands css b next second
    pub at_third : Stands css c next third
    pub least : next ≡ min (min first.at second.at) third.at

  module _ (q s : List ℕ) (first second third : Cursor) (next : ℕ) where
    -- the cursors stand behind a position, and the least of them is the next
    pub waking_at : (i : ℕ) → Joined css those q i s → Stands css a i first → Stands css b i second → Stands css c i third → next ≡ min (min first.at second.at) third.at → Waking q s first second third next
    waking_at i sofar ka kb kc e =
        let la = ap (λ x. x.at) ka in
        let lb = ap (λ x. x.at) kb in
        let lc = ap (λ x. x.at) kc in
        let least : next ≡ least_after css those i = omega (arith, least_stands i) in
        let from : i ≤ next = omega (arith, least_from css those i sofar.within) in
        record {
          joined = subst (λ n. Joined css those q n s) (sym least) (joined_skip css those q i s sofar);
          at_first = stays css a i next first ka from (omega arith);
          at_second = stays css b i next second kb from (omega arith);
          at_third = stays css c i next third kc from (omega arith);
          least = e;
        }

  pub waking_start : (q : List ℕ) (first second third : Cursor) (next : ℕ) → Stands css a 0 first → Stands css b 0 second → Stands css c 0 third → next ≡ min (min first.at second.at) third.at → Waking q q first second third next
  waking_start q first second third next ka kb kc e = waking_at q q first second third next 0 (joined_start css those q) ka kb kc e

  module _ (q s : List ℕ) (first second third : Cursor) (next : ℕ) (sofar : Waking q s first second third next) where
    least_now : next ≡ least_after css those next
    least_now =
        let la = ap (λ x. x.at) sofar.at_first in
        let lb = ap (λ x. x.at) sofar.at_second in
        let lc = ap (λ x. x.at) sofar.at_third in
        omega (arith, least_stands next, sofar.least)

    module _ (first' second' third' : Cursor) (next' : ℕ) (s' : List ℕ) (l : next < length css) (e : s' ≡ joined_by next s) (ma : first' ≡ passed css first next) (mb : second' ≡ passed css second next) (mc : third' ≡ passed css third next) (m : next' ≡ min (min first'.at second'.at) third'.at) where
      moved_first : Stands css a (next + 1) first'
      moved_first = passes css a next first first' sofar.at_first (omega (arith, sofar.least)) l ma

      moved_second : Stands css b (next + 1) second'
      moved_second = passes css b next second second' sofar.at_second (omega (arith, sofar.least)) l mb

      moved_third : Stands css c (next + 1) third'
      moved_third = passes css c next third third' sofar.at_third (omega (arith, sofar.least)) l mc

      -- one turn
      pub waking_more : Waking q s' first' second' third' next'
      waking_more =
          waking_at q s' first' second' third' next' (next + 1)
          (subst (Joined css those q (next + 1)) (sym e) (joined_turn css those q next s sofar.joined next least_now l))
          moved_first moved_second moved_third m

      pub waking_on : next < next'
      waking_on =
          let la = ap (λ x. x.at) moved_first in
          let lb = ap (λ x. x.at) moved_second in
          let lc = ap (λ x. x.at) moved_third in
          omega (arith, least_stands (next + 1), least_from css those (next + 1) (omega arith))

-- the number of records, where the chains end
pub end_is : (css : List (List ℕ)) (ch : Chains) → slots_of ch ≡ css → Chained (slots_of ch) ch → ch.count ≡ length css
end_is css ch e known = known.count ∙ ap length e
