-- Bytes put from a place on, and the bytes of a number, high byte first.
-- Assumes nothing.
use Prim.Native.Nat.{ℕ, ◌+◌, ◌/◌, ◌%◌, ◌^◌, ◌≤◌, ◌<◌}
use native.Mathlib.Omega.{arith}
use native.Mathlib.Decide.{dec_le}
use mathlib.Core.Path.{◌≡◌, sym, ap, ◌∙◌}
use mathlib.Core.Logic.{by_cases}
use mathlib.Core.List.{List, [], ◌∷◌, ◌++◌, append_assoc}
use lib.ListN.{length, take, drop, length-take, drop_of_length-le}
use lib.Seq.{drop-drop}
use borrow.Rule.Slice.PartMut.{put_mid}
use Rattle.std.specs.Int.{w16, w32, to_be_bytes}
use Rattle.std.proofs.lemmas.List.{take-append-drop}
use Rattle.lists.specs.Put.{put}
use Rattle.lists.proofs.PutLaws.{put-nothing, put-append, put-past, put-fits, length-put}
use Rattle.option.specs.Writing.{two_bytes, four_bytes}

-- A part of a list written over.
pub put-part : (l ys : List ℕ) (at k : ℕ) → k ≡ length ys → at + length ys ≤ length l → put_mid at k l ys ≡ put l at ys
put-part l ys at k e h =
    ap (λ (b : List ℕ). take at l ++ (ys ++ b)) (drop-drop k at l ∙ ap (λ (m : ℕ). drop (at + m) l) e)
    ∙ sym (put-fits ys l at h ∙ append_assoc (take at l) ys (drop (at + length ys) l))

-- As many as there is room for: the others are dropped.
pub put-room : (l xs : List ℕ) (at n : ℕ) → n ≤ length xs → (n < length xs → length l ≤ at + n) → put l at (take n xs) ≡ put l at xs
put-room l xs at n few full =
    let size : length (take n xs) ≡ n = omega (arith, length-take n xs) in
    let rest : put (put l at (take n xs)) (at + length (take n xs)) (drop n xs) ≡ put l at (take n xs) =
    by_cases (dec_le (length xs) n)
    (λ h. ap (put (put l at (take n xs)) (at + length (take n xs))) (drop_of_length-le xs h) ∙ put-nothing _ _)
    (λ h. put-past (drop n xs) (put l at (take n xs)) (at + length (take n xs)) (omega (arith, length-put (take n xs) l at, full (omega arith)))) in
    sym rest ∙ put-append (take n xs) l at (drop n xs) ∙ ap (put l at) (take-append-drop n xs)

pub four-high-first : (n : ℕ) → n < 2 ^ 32 → to_be_bytes w32 n ≡ four_bytes n
unfolding four_bytes
four-high-first n h =
    let top : n / 16777216 % 256 ≡ n / 16777216 = omega arith in ap (λ (b : ℕ). b ∷ n / 65536 % 256 ∷ n / 256 % 256 ∷ n % 256 ∷ []) top

pub two-high-first : (n : ℕ) → n < 2 ^ 16 → to_be_bytes w16 n ≡ two_bytes n
unfolding two_bytes
two-high-first n h =
    let top : n / 256 % 256 ≡ n / 256 = omega arith in ap (λ (b : ℕ). b ∷ n % 256 ∷ []) top
