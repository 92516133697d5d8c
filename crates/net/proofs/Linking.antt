-- The chains while they are built, from the last record to the first. Assumes nothing.
use Rattle.std.proofs.Common.{◌≡◌, ℕ, zero, suc, ◌+◌, ◌<◌, ◌≤◌, Bool, true, false, cond, ◌||◌, eqb, List, [], ◌∷◌, map, length, get_or, take, set, replicate, sym, refl, ap, ◌∙◌, subst, ⊎_elim, le_of_suc-le-suc, not-suc-le-zero, arith}
use Rattle.std.proofs.lemmas.List.{get_or-set_same, get_or-set_other, get_or-replicate, length-set, length-replicate, length-map, length-take-le, get_or-map, get_or-take, ext_get_or}
use Rattle.std.proofs.lemmas.Bool.{cases_eq, cond-true, cond-false, eq-eqb, ne_eqb}
use Rattle.tube.specs.Tubes.{most_cells}
use Rattle.constraint.specs.Mentions.{cell_slots}
use Rattle.constraint.specs.declared.constraint.Constraint.{Constraint}
use Rattle.net.specs.Nets.{among, most_records}
use Rattle.net.specs.Chains.{after}
use Rattle.net.specs.Links.{slots, slots_of, slot, Three, no_mention, Heads, linked, Links, Chained}
use Rattle.net.specs.declared.chains.Link.{Link}
use Rattle.net.specs.declared.chains.Chains.TheInside.{Inside as Chains}
use Rattle.net.specs.Slots.{three_slots}

-- the first record that mentions a cell, past the end and one position before
after_end : (css : List (List ℕ)) (c : ℕ) → after css c (length css) ≡ length css
after_end [] c = refl
after_end (cs ∷ css) c = ap suc (after_end css c)

suc_cond : (b : Bool) (x y : ℕ) → suc (cond b x y) ≡ cond b (suc x) (suc y)
suc_cond true x y = refl
suc_cond false x y = refl

after_here : (css : List (List ℕ)) (c i : ℕ) → i < length css → after css c i ≡ cond (among c (get_or css i [])) i (after css c (i + 1))
after_here [] c i l = absurd (not-suc-le-zero l)
after_here (cs ∷ css) c zero l = refl
after_here (cs ∷ css) c (suc i) l =
    let e : suc (i + 1) ≡ suc i + 1 = omega arith in
    ap suc (after_here css c i (le_of_suc-le-suc l))
    ∙ suc_cond (among c (get_or css i [])) i (after css c (i + 1))
    ∙ ap (λ n. cond (among c (get_or css i [])) (suc i) (after (cs ∷ css) c n)) e

-- a record at position i becomes the head of three cells
get_or_set : (heads : List ℕ) (d i c : ℕ) → d < length heads → get_or (set heads d i) c 0 ≡ cond (eqb c d) i (get_or heads c 0)
get_or_set heads d i c l =
    ⊎_elim
    (λ e. ap (λ k. get_or (set heads d i) k 0) e ∙ get_or-set_same heads d i 0 l ∙ sym (cond-true _ _ _ (eq-eqb c d e)))
    (λ ne. get_or-set_other heads d c i 0 ne ∙ sym (cond-false _ _ _ (ne_eqb c d ne)))
    (cases_eq c d)

any_of_three : (x y z : Bool) (i n : ℕ) → cond z i (cond y i (cond x i n)) ≡ cond (x || (y || (z || false))) i n
any_of_three true true true i n = refl
any_of_three true true false i n = refl
any_of_three true false true i n = refl
any_of_three true false false i n = refl
any_of_three false true true i n = refl
any_of_three false true false i n = refl
any_of_three false false true i n = refl
any_of_three false false false i n = refl

abbrev pub three_set : List ℕ → (a b c i : ℕ) → List ℕ
three_set heads a b c i = set (set (set heads a i) b i) c i

module _ (heads : List ℕ) (a b c i : ℕ) where
  three_length : length (three_set heads a b c i) ≡ length heads
  three_length = length-set (set (set heads a i) b i) c i ∙ length-set (set heads a i) b i ∙ length-set heads a i

  three_at : a < length heads → b < length heads → c < length heads → (d : ℕ) → get_or (three_set heads a b c i) d 0 ≡ cond (among d (a ∷ b ∷ c ∷ [])) i (get_or heads d 0)
  three_at la lb lc d =
      let m = length-set heads a i in
      let n = length-set (set heads a i) b i in
      get_or_set (set (set heads a i) b i) c i d (omega arith)
      ∙ ap (cond (eqb d c) i) (get_or_set (set heads a i) b i d (omega arith) ∙ ap (cond (eqb d b) i) (get_or_set heads a i d la))
      ∙ any_of_three (eqb d a) (eqb d b) (eqb d c) i (get_or heads d 0)

pub record Linking (css : List (List ℕ)) (i : ℕ) (heads : List ℕ) (mentions : List (List Link)) : Type 0 where
  pub cells : length heads ≡ most_cells
  pub records : length mentions ≡ most_records
  pub first : Heads css i heads
  pub links : Links css i mentions

pub linking_none : (css : List (List ℕ)) (n : ℕ) (m : List Link) → n ≡ length css → Linking css n (replicate most_cells n) (replicate most_records m)
linking_none css n m e = record {
  cells = length-replicate most_cells n;
  records = length-replicate most_records m;
  first = λ c l. get_or-replicate most_cells c n 0 l ∙ e ∙ sym (ap (after css c) e ∙ after_end css c);
  links = λ j from l. absurd (omega arith);
}

-- what is stored for a record with these cells
abbrev pub mention : List ℕ → List ℕ → List Link
mention heads cs = map (λ c. record { cell = c; next = get_or heads c 0 }) (slot cs 0 ∷ slot cs 1 ∷ slot cs 2 ∷ [])

module _ (css : List (List ℕ)) (i : ℕ) (heads : List ℕ) (mentions : List (List Link)) (sofar : Linking css (i + 1) heads mentions) (within : i < length css) (few : length css ≤ most_records) (cs : List ℕ) (three : Three most_cells cs) (here : get_or css i [] ≡ cs) where
  mention_linked : mention heads cs ≡ linked css i (get_or css i [])
  mention_linked =
      let a = sofar.first (slot cs 0) three.first in
      let b = sofar.first (slot cs 1) three.second in
      let c = sofar.first (slot cs 2) three.third in
      let all : mention heads cs ≡ linked css i (slot cs 0 ∷ slot cs 1 ∷ slot cs 2 ∷ []) = cc in
      all ∙ ap (linked css i) (sym three.are ∙ sym here)

  pub linking_more : Linking css i (three_set heads (slot cs 0) (slot cs 1) (slot cs 2) i) (set mentions i (mention heads cs))
  linking_more =
      let sized = sofar.cells in
      let room = sofar.records in
      let la = three.first in
      let lb = three.second in
      let lc = three.third in
      record {
        cells = three_length heads (slot cs 0) (slot cs 1) (slot cs 2) i ∙ sized;
        records = length-set mentions i (mention heads cs) ∙ room;
        first = λ d l.
            three_at heads (slot cs 0) (slot cs 1) (slot cs 2) i (omega arith) (omega arith) (omega arith) d
            ∙ ap (cond (among d (slot cs 0 ∷ slot cs 1 ∷ slot cs 2 ∷ [])) i) (sofar.first d l)
            ∙ ap (λ ds. cond (among d ds) i (after css d (i + 1))) (sym three.are ∙ sym here)
            ∙ sym (after_here css d i within);
        links = λ j from l. ⊎_elim
            (λ e. ap (λ k. get_or (set mentions i (mention heads cs)) k no_mention) e ∙ get_or-set_same mentions i (mention heads cs) no_mention (omega arith) ∙ mention_linked ∙ sym (ap (λ k. linked css k (get_or css k [])) e))
            (λ ne. get_or-set_other mentions i j (mention heads cs) no_mention ne ∙ sofar.links j (omega arith) l)
            (cases_eq j i);
      }

slots_three : (ks : List Constraint) (j : ℕ) → j < length (slots ks) → length (get_or (slots ks) j []) ≡ 3
slots_three [] j l = absurd (not-suc-le-zero l)
slots_three (k ∷ ks) zero l = ap length (three_slots k).are
slots_three (k ∷ ks) (suc j) l = slots_three ks j (le_of_suc-le-suc l)

map_cells : (css : List (List ℕ)) (j : ℕ) (cs : List ℕ) → map (λ l. l.cell) (linked css j cs) ≡ cs
map_cells css j [] = refl
map_cells css j (c ∷ cs) = ap (λ ds. c ∷ ds) (map_cells css j cs)

-- all records are linked
module _ (ks : List Constraint) (n : ℕ) (heads : List ℕ) (mentions : List (List Link)) (e : n ≡ length ks) (few : n ≤ most_records) (all : Linking (slots ks) 0 heads mentions) where
  abbrev chains : Chains
  chains = record { count = n; heads = heads; mentions = mentions }

  slot_count : length (slots ks) ≡ n
  slot_count = length-map ks cell_slots ∙ sym e

  stored_count : length (take n mentions) ≡ n
  stored_count = length-take-le n mentions (omega (arith, all.records))

  stored_at : (j : ℕ) → j < length (slots_of chains) → get_or (slots_of chains) j [] ≡ get_or (slots ks) j []
  stored_at j l =
      let m = length-map (take n mentions) (map (λ l. l.cell)) in
      let below : j < n = omega (arith, m, stored_count) in
      get_or-map (map (λ l. l.cell)) (take n mentions) j no_mention [] (omega (arith, stored_count))
      ∙ ap (map (λ l. l.cell)) (get_or-take n mentions j no_mention below ∙ all.links j (omega arith) (omega (arith, slot_count)))
      ∙ map_cells (slots ks) j (get_or (slots ks) j [])

  pub stored_slots : slots_of chains ≡ slots ks
  stored_slots = ext_get_or [] (slots_of chains) (slots ks) (length-map (take n mentions) (map (λ l. l.cell)) ∙ stored_count ∙ sym slot_count) stored_at

  pub linking_all : Chained (slots_of chains) chains
  linking_all = subst (λ css. Chained css chains) (sym stored_slots) (record {
    count = sym slot_count;
    few = omega (arith, slot_count);
    three = slots_three ks;
    heads = all.first;
    links = all.links;
  })
