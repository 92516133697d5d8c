-- Fields put on a page, one after the other. Assumes nothing.
use Rattle.std.proofs.Common.{◌≡◌, ℕ, ◌+◌, ◌<◌, List, [], ◌∷◌, ◌++◌, map, length, get_or, take, drop, sym, refl, ap, ◌∙◌, subst, append_assoc, append-nil, arith}
use Rattle.std.proofs.lemmas.List.{take_more, map-append, length-append, take-append-drop}
use Rattle.swimlog.specs.Pages.{page_bytes, Room}
use Rattle.swimlog.specs.Report.{space, spaced}
use Rattle.swimlog.specs.declared.page.Page.{Page}

-- the second of two parts has room behind the first
module _ (p : Page) (a b : List ℕ) (room : Room p (a ++ b)) where
  room_first : Room p a
  room_first = omega (arith, length-append a b)

  module _ (q : Page) (first : page_bytes q ≡ page_bytes p ++ a) where
    room_second : Room q b
    room_second = omega (arith, length-append a b, ap length first, length-append (page_bytes p) a)

spaced_append : (xs ys : List (List ℕ)) → spaced (xs ++ ys) ≡ spaced xs ++ spaced ys
spaced_append [] ys = refl
spaced_append (x ∷ xs) ys = ap (λ l. space ∷ (x ++ l)) (spaced_append xs ys) ∙ ap (λ l. space ∷ l) (sym (append_assoc x (spaced xs) (spaced ys)))

-- the next of the fields, x
module _ {X : Type 0} (text : X → List ℕ) (fields : List X) (i : ℕ) (x : X) (below : i < length fields) (here : x ≡ get_or fields i x) where
  fields_more : spaced (map text (take (i + 1) fields)) ≡ spaced (map text (take i fields)) ++ (space ∷ text x)
  fields_more =
      ap (λ l. spaced (map text l)) (take_more fields i x below ∙ ap (λ y. take i fields ++ y ∷ []) (sym here))
      ∙ ap spaced (map-append text (take i fields) (x ∷ []))
      ∙ spaced_append (map text (take i fields)) (text x ∷ [])
      ∙ ap (λ l. spaced (map text (take i fields)) ++ (space ∷ l)) (append-nil (text x))

  -- as one part of all
  fields_split : (spaced (map text (take i fields)) ++ (space ∷ text x)) ++ spaced (map text (drop (i + 1) fields)) ≡ spaced (map text fields)
  fields_split =
      ap (λ l. l ++ spaced (map text (drop (i + 1) fields))) (sym fields_more)
      ∙ sym (spaced_append (map text (take (i + 1) fields)) (map text (drop (i + 1) fields)))
      ∙ ap spaced (sym (map-append text (take (i + 1) fields) (drop (i + 1) fields)))
      ∙ ap (λ l. spaced (map text l)) (take-append-drop (i + 1) fields)

  module _ (p q : Page) (front : page_bytes q ≡ page_bytes p ++ spaced (map text (take i fields))) where
    pub field_room : Room p (spaced (map text fields)) → Room q (space ∷ text x)
    field_room room =
        let done = spaced (map text (take i fields)) in
        let field = space ∷ text x in
        let rest = spaced (map text (drop (i + 1) fields)) in
        room_second p done field (room_first p (done ++ field) rest (subst (Room p) (sym fields_split) room)) q front

    pub field_put : (r : Page) → page_bytes r ≡ page_bytes q ++ (space ∷ text x) → page_bytes r ≡ page_bytes p ++ spaced (map text (take (i + 1) fields))
    field_put r put =
        put ∙ ap (λ l. l ++ (space ∷ text x)) front ∙ append_assoc (page_bytes p) (spaced (map text (take i fields))) (space ∷ text x)
        ∙ ap (λ l. page_bytes p ++ l) (sym fields_more)
