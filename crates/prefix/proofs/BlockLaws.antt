-- What the answers of the constructor of prefixes tell.
-- Assumes nothing.
use Prim.Native.Nat.{ℕ, ◌≤◌}
use mathlib.Core.Path.{◌≡◌, refl}
use mathlib.Core.Bool.{Bool, true, false, not, cond, ◌&&◌}
use lib.Dec.{leb}
use borrow.Author.Tests.{leb-true, le-leb, not-false}
use Rattle.lists.proofs.Tests.{and-to}
use Rattle.std.specs.Prelude.{Ok, Err}
use Rattle.prefix.specs.declared.Prefix.{Prefix}
use Rattle.prefix.specs.declared.PrefixFault.{PrefixFault}
use Rattle.prefix.specs.declared.PrefixFault.TheVariants.{BadLength, Misaligned}
use Rattle.prefix.specs.Prefixes.{shortest, longest, prefix, Aligned, aligned?, checked}
use Rattle.prefix.proofs.PrefixLaws.{aligned-to, aligned-of}

pub record Block (p : Prefix) : Type 0 where
  pub short : shortest ≤ p.length
  pub long : p.length ≤ longest
  pub aligned : Aligned p

module _ (network len : ℕ) where
  -- Of a block the answer is the prefix.
  pub block-made : Block (prefix network len) → checked network len ≡ Ok (prefix network len)
  block-made b = rw (le-leb shortest len b.short, le-leb len longest b.long, aligned-of (prefix network len) b.aligned) refl

  -- A block is made: a fault is about none.
  pub refused-block : (f : PrefixFault) → checked network len ≡ Err f → Block (prefix network len) → ⊥
  refused-block f e b = let made = block-made b in cc

  -- What is made has this network and length, and is a block.
  pub made-block : (p : Prefix) → checked network len ≡ Ok p → (p ≡ prefix network len) × Block (prefix network len)
  made-block p e =
      let m = tests p (not (leb shortest len && leb len longest)) (aligned? (prefix network len)) e in
      let t = and-to (leb shortest len) (leb len longest) (not-false (leb shortest len && leb len longest) m.1) in
      (m.0, record { short = leb-true shortest len t.0; long = leb-true len longest t.1; aligned = aligned-to (prefix network len) m.2 })
    where
      tests : (p : Prefix) (a b : Bool) → cond a (Err BadLength) (cond b (Ok (prefix network len)) (Err Misaligned)) ≡ Ok p → (p ≡ prefix network len) × (a ≡ false) × (b ≡ true)
      tests p true b e = cc
      tests p false true e = (cc, refl, refl)
      tests p false false e = cc
