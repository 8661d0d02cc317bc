-- Values picked from a list and put back into it. Assumes nothing.
use Rattle.std.proofs.Common.{◌≡◌, ℕ, suc, ◌<◌, ◌≤◌, true, false, ◌||◌, eqb, ltb, leb, List, [], ◌∷◌, length, get_or, set, sym, refl, ap, ◌∙◌, subst, inl, inr, arith, length-set}
use Rattle.std.proofs.lemmas.List.{get_or-set_same, get_or-set_other}
use Rattle.std.proofs.lemmas.Bool.{both_ways, or_parts, or_cases, or_left, or_right, and_parts, eqb-true, eqb-false, eq-eqb, ne_eqb, ltb-true, leb-true, true≢false}
use Rattle.orders.specs.Ascending.{ascends_from}
use Rattle.orders.specs.Lists.{all_below}
use Rattle.model.specs.Orders.{picked, replaced, listed, overlap}

pub length_replaced : (values list news : List ℕ) → length (replaced values list news) ≡ length values
length_replaced values [] news = refl
length_replaced values (o ∷ list) [] = refl
length_replaced values (o ∷ list) (v ∷ news) = length_replaced (set values o v) list news ∙ length-set values o v

-- an object that is not listed keeps its value
pub replaced_other : (values list news : List ℕ) (o : ℕ) → listed o list ≡ false → get_or (replaced values list news) o 0 ≡ get_or values o 0
replaced_other values [] news o out = refl
replaced_other values (x ∷ list) [] o out = refl
replaced_other values (x ∷ list) (v ∷ news) o out =
    let parts = or_parts (eqb o x) (listed o list) out in
    replaced_other (set values x v) list news o parts.1 ∙ get_or-set_other values x o v 0 (eqb-false o x parts.0)

-- in an ascending list nothing below its start is listed
pub not_listed_below : (least : ℕ) (list : List ℕ) (o : ℕ) → ascends_from least list ≡ true → o < least → listed o list ≡ false
not_listed_below least [] o up below = refl
not_listed_below least (x ∷ list) o up below =
    let parts = and_parts (leb least x) (ascends_from (suc x) list) up in
    let above : least ≤ x = leb-true least x parts.0 in
    let head : eqb o x ≡ false = ne_eqb o x (λ e. omega arith) in
    let rest : listed o list ≡ false = not_listed_below (suc x) list o parts.1 (omega arith) in
    ap (λ b. b || listed o list) head ∙ rest

-- what is put back at an ascending list is what is then picked
pub picked_replaced : (least : ℕ) (values list news : List ℕ) → ascends_from least list ≡ true → all_below (length values) list ≡ true → length news ≡ length list
    → picked (replaced values list news) list ≡ news
picked_replaced least values [] [] up below long = refl
picked_replaced least values [] (v ∷ news) up below long = absurd (omega arith)
picked_replaced least values (x ∷ list) [] up below long = absurd (omega arith)
picked_replaced least values (x ∷ list) (v ∷ news) up below long =
    let ups = and_parts (leb least x) (ascends_from (suc x) list) up in
    let belows = and_parts (ltb x (length values)) (all_below (length values) list) below in
    let inside : x < length values = ltb-true x (length values) belows.0 in
    let apart : listed x list ≡ false = not_listed_below (suc x) list x ups.1 (omega arith) in
    let head : get_or (replaced (set values x v) list news) x 0 ≡ v = replaced_other (set values x v) list news x apart ∙ get_or-set_same values x v 0 inside in
    let rest : picked (replaced (set values x v) list news) list ≡ news =
    picked_replaced (suc x) (set values x v) list news ups.1 (subst (λ (n : ℕ). all_below n list ≡ true) (sym (length-set values x v)) belows.1) (omega arith) in
    ap (λ y. y ∷ picked (replaced (set values x v) list news) list) head ∙ ap (λ ys. v ∷ ys) rest

-- values that agree at the listed objects are picked alike
pub picked_same : (xs ys list : List ℕ) → ((o : ℕ) → listed o list ≡ true → get_or xs o 0 ≡ get_or ys o 0) → picked xs list ≡ picked ys list
picked_same xs ys [] each = refl
picked_same xs ys (x ∷ list) each =
    ap (λ v. v ∷ picked xs list) (each x (or_left (eqb x x) (listed x list) (eq-eqb x x refl)))
    ∙ ap (λ vs. get_or ys x 0 ∷ vs) (picked_same xs ys list (λ o in_List. each o (or_right (eqb o x) (listed o list) in_List)))

-- and values that are picked alike agree at the listed objects
pub same_picked : (xs ys list : List ℕ) (o : ℕ) → picked xs list ≡ picked ys list → listed o list ≡ true → get_or xs o 0 ≡ get_or ys o 0
same_picked xs ys [] o same in_List = absurd (true≢false (sym in_List))
same_picked xs ys (x ∷ list) o same in_List =
    elim (or_cases (eqb o x) (listed o list) in_List) [
      | inl here ↦
          let e : o ≡ x = eqb-true o x here in
          let head : get_or xs x 0 ≡ get_or ys x 0 = cc in
          ap (λ k. get_or xs k 0) e ∙ head ∙ ap (λ k. get_or ys k 0) (sym e)
      | inr there ↦
          let rest : picked xs list ≡ picked ys list = cc in
          same_picked xs ys list o rest there
    ]

pub listed_below : (n : ℕ) (list : List ℕ) (o : ℕ) → all_below n list ≡ true → listed o list ≡ true → o < n
listed_below n [] o below in_List = absurd (true≢false (sym in_List))
listed_below n (x ∷ list) o below in_List =
    let belows = and_parts (ltb x n) (all_below n list) below in
    elim (or_cases (eqb o x) (listed o list) in_List) [
      | inl here ↦ subst (λ (k : ℕ). k < n) (sym (eqb-true o x here)) (ltb-true x n belows.0)
      | inr there ↦ listed_below n list o belows.1 there
    ]

-- lists that do not overlap have no object in common
pub overlap_none : (xs ys : List ℕ) (o : ℕ) → overlap xs ys ≡ false → listed o xs ≡ true → listed o ys ≡ true → ⊥
overlap_none [] ys o none in-xs in_ys = true≢false (sym in-xs)
overlap_none (x ∷ xs) ys o none in-xs in_ys =
    let parts = or_parts (listed x ys) (overlap xs ys) none in
    elim (or_cases (eqb o x) (listed o xs) in-xs) [
      | inl here ↦ both_ways (listed o ys) (ap (λ k. listed k ys) (eqb-true o x here) ∙ parts.0) in_ys
      | inr there ↦ overlap_none xs ys o parts.1 there in_ys
    ]
