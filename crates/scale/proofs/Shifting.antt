-- A list whose last came to the front, where another takes its place: that other in front, and the last gone.
use Rattle.std.proofs.Common.{◌≡◌, ◌-◌, ◌<◌, List, [], ◌∷◌, ◌++◌, length, take, drop, set, ap, ◌∙◌, refl, arith}
use Rattle.std.proofs.lemmas.List.{length-drop}

in_front : {X : Type 0} (xs ys : List X) (v : X) → length xs ≡ 1 → set (xs ++ ys) 0 v ≡ v ∷ ys
in_front [] ys v e = absurd (omega arith)
in_front (x ∷ []) ys v e = refl
in_front (x ∷ y ∷ zs) ys v e = absurd (omega arith)

pub shifted : {X : Type 0} (xs : List X) (v : X) → 0 < length xs → set (drop (length xs - 1) xs ++ take (length xs - 1) xs) 0 v ≡ take (length xs) (v ∷ xs)
shifted [] v l = absurd (omega arith)
shifted (x ∷ xs) v l =
    let e : length (x ∷ xs) - 1 ≡ length xs = omega arith in
    in_front (drop (length (x ∷ xs) - 1) (x ∷ xs)) (take (length (x ∷ xs) - 1) (x ∷ xs)) v (rw (length-drop (length (x ∷ xs) - 1) (x ∷ xs)) (omega arith))
    ∙ ap (λ n. v ∷ take n (x ∷ xs)) e
