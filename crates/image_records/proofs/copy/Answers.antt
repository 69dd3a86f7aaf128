-- `image_records::copy` meets its contract: what the array was given goes on to the buffer.
use mathlib.Core.Path.{◌≡◌, refl, ap, ap₂, ◌∙◌}
use mathlib.Core.List.{List, ◌++◌}
use Prim.Native.Nat.{ℕ}
use lib.ListN.{length, take, drop}
use lib.Seq.{take_at}
use Rattle.image_records.proofs.copy.Goals as goal

-- All of some bytes, copied to the front of others, and taken from there.
taken : (xs l q : List ℕ) (n : ℕ) → n ≡ length xs → l ≡ xs ++ drop (length xs) q → take n l ≡ xs
taken xs l q n size e = ap₂ take size e ∙ take_at xs (drop (length xs) q) (length xs) refl

pub returns : goal.returns
returns c =
    let all = taken _ _ _ _ c.copy-n.ensures.count c.copy-n.ensures.value in
    record {
      value = c.copy.ensures.count ∙ ap length all;
      to_after = c.copy.ensures.value ∙ ap (λ (xs : List ℕ). xs ++ drop (length xs) c.args.to.now) all;
    }
