-- What waits in a block.
use Rattle.std.proofs.Common.{◌≡◌, ℕ, ◌+◌, ◌-◌, ◌≤◌, List, ◌++◌, length, take, drop, arith, ◌∙◌, sym, ap, subst, append_assoc}
use Rattle.sessions.proofs.Common.{drop-drop, drop-take, length-take, length-take-le, take-append-add, take-append-le, take-take}

-- what came behind it waits too
pub grown : (s e n m : ℕ) (xs got rest tail : List ℕ) → s ≡ 0 → e ≤ length xs → n ≤ length got → e + n ≤ m → take (e + n - s) (drop s (take m ((take e xs ++ (got ++ rest)) ++ tail))) ≡ take (e - s) (drop s xs) ++ take n got
grown s e n m xs got rest tail front within few fits =
    let l : length (take e xs) ≡ e = length-take-le e xs within in
    let whole : (take e xs ++ (got ++ rest)) ++ tail ≡ take e xs ++ (got ++ (rest ++ tail)) = append_assoc (take e xs) (got ++ rest) tail ∙ ap (λ (ys : List ℕ). take e xs ++ ys) (append_assoc got rest tail) in
    let seam : take (e + n) (take e xs ++ (got ++ (rest ++ tail))) ≡ take e xs ++ take n (got ++ (rest ++ tail)) = subst (λ (m : ℕ). take (m + n) (take e xs ++ (got ++ (rest ++ tail))) ≡ take e xs ++ take n (got ++ (rest ++ tail))) l (take-append-add (take e xs) (got ++ (rest ++ tail)) n) in
    let all : take (e + n) (take e xs ++ (got ++ (rest ++ tail))) ≡ take e xs ++ take n got = seam ∙ ap (λ (ys : List ℕ). take e xs ++ ys) (take-append-le n got (rest ++ tail) few) in
    let cut : take (e + n) (take m ((take e xs ++ (got ++ rest)) ++ tail)) ≡ take (e + n) ((take e xs ++ (got ++ rest)) ++ tail) = take-take (e + n) m ((take e xs ++ (got ++ rest)) ++ tail) fits in
    let z : e - s ≡ e = omega arith in
    let y : e + n - s ≡ e + n = omega arith in
    rw (y, z, front) (cut ∙ (ap (take (e + n)) whole ∙ all))

-- what was taken off the front waits no longer
pub advanced : (s e n : ℕ) (xs : List ℕ) → s ≤ e → n ≤ length (take (e - s) (drop s xs)) → take (e - (s + n)) (drop (s + n) xs) ≡ drop n (take (e - s) (drop s xs))
advanced s e n xs ordered few =
    let l = length-take (e - s) (drop s xs) in
    let m : n + (e - (s + n)) ≡ e - s = omega arith in
    let one : drop n (take (n + (e - (s + n))) (drop s xs)) ≡ take (e - (s + n)) (drop n (drop s xs)) = drop-take n (e - (s + n)) (drop s xs) in
    let two : drop n (take (e - s) (drop s xs)) ≡ take (e - (s + n)) (drop n (drop s xs)) = subst (λ (k : ℕ). drop n (take k (drop s xs)) ≡ take (e - (s + n)) (drop n (drop s xs))) m one in
    sym (two ∙ ap (take (e - (s + n))) (drop-drop n s xs))
