-- Figures and entries, put piece by piece.
-- Assumes nothing.
use Prim.Native.Nat.{ℕ, zero, suc, ◌+◌, ◌-◌, ◌*◌, ◌/◌, ◌%◌, ◌≤◌, ◌<◌}
use native.Mathlib.Omega.{arith}
use mathlib.Core.Path.{◌≡◌, refl, sym, ap, ◌∙◌}
use mathlib.Core.Bool.{true}
use mathlib.Core.List.{List, [], ◌∷◌, ◌++◌, map}
use lib.ListN.{length, get_or, take, replicate, length-map, get_or-map}
use lib.Dec.{leb}
use borrow.Author.Tests.{leb-true}
use Rattle.lists.specs.Lists.{all?, concat_map}
use Rattle.lists.specs.Put.{put}
use Rattle.lists.proofs.Tests.{and-to}
use Rattle.lists.proofs.PutLaws.{put-more}
use Rattle.option.specs.Rules.{entry_fields?}
use Rattle.option.specs.Writing.{two_bytes, entry_head, entry_bytes}
use Rattle.option.specs.Writer.{entry_writable?}
use Rattle.option_entry.specs.declared.EntryFields.{EntryFields}
use Rattle.option_entry.specs.declared.Figures.{Figures}
use Rattle.option.proofs.WritingLaws.{entry-head-length}
use Rattle.option_measure.specs.Lists.{figures_in, entry_of}
use Rattle.lists.proofs.IndexLaws.{all?-at}
use Rattle.option_measure.proofs.EntryLengths.{figures-count, entry_next}
use Rattle.option_write.specs.Inner.{PutAt}

-- The figures that are counted, of the three.
figures-taken : (n a b c : ℕ) → n ≤ 3 → take (2 * n) (a / 256 ∷ a % 256 ∷ b / 256 ∷ b % 256 ∷ c / 256 ∷ c % 256 ∷ []) ≡ concat_map two_bytes (take n (a ∷ b ∷ c ∷ replicate (n - 3) 0))
unfolding two_bytes
figures-taken zero a b c h = refl
figures-taken (suc zero) a b c h = refl
figures-taken (suc (suc zero)) a b c h = refl
figures-taken (suc (suc (suc zero))) a b c h = refl
figures-taken (suc (suc (suc (suc n)))) a b c h = absurd (omega arith)

pub figures-put : (f : Figures) → f.count ≤ 3 → take (2 * f.count) (two_bytes f.high_water.0 ++ (two_bytes f.in_use.0 ++ two_bytes f.unusable.0)) ≡ concat_map two_bytes (figures_in f)
unfolding figures_in two_bytes
figures-put f h = figures-taken f.count f.high_water.0 f.in_use.0 f.unusable.0 h

-- The seven bytes of an entry, and then its figures.
pub entry-put : (l l₁ l₂ : List ℕ) (at : ℕ) (e : EntryFields) → l₁ ≡ put l at (entry_head e.network e.length e.h e.d (2 * e.figures.count))
    → l₂ ≡ put l₁ (at + 7) (concat_map two_bytes (figures_in e.figures)) → l₂ ≡ put l at (entry_bytes (entry_of e))
unfolding entry_bytes entry_of
entry-put l l₁ l₂ at e e₁ e₂ =
    let head : List ℕ = entry_head e.network e.length e.h e.d (2 * e.figures.count) in
    let n = entry-head-length e.network e.length e.h e.d (2 * e.figures.count) in
    put-more l l₁ l₂ at head (at + 7) (concat_map two_bytes (figures_in e.figures)) e₁ (omega arith) e₂
    ∙ ap (λ (k : ℕ). put l at (entry_head e.network e.length e.h e.d (2 * k) ++ concat_map two_bytes (figures_in e.figures))) (sym (figures-count e.figures))

-- An entry that can be written has at most three figures.
pub writable-few : (e : EntryFields) → entry_writable? (entry_of e) ≡ true → e.figures.count ≤ 3
unfolding entry_writable? entry_of
writable-few e w =
    omega (arith, figures-count e.figures, leb-true (length (figures_in e.figures)) 3 (and-to (leb (length (figures_in e.figures)) 3) (entry_fields? (entry_of e)) w).0)

pub few-at : (es : List EntryFields) → all? entry_writable? (map entry_of es) ≡ true → (i : ℕ) (d : EntryFields) → i < length es → (get_or es i d).figures.count ≤ 3
few-at es w i d h =
    writable-few (get_or es i d)
    (ap entry_writable? (sym (get_or-map entry_of es i d)) ∙ all?-at entry_writable? (map entry_of es) w i (entry_of d) (omega (arith, length-map es entry_of)))

-- An entry that can be written takes at most 13 bytes.
pub entry-short : (l l₂ : List ℕ) (p p₂ : ℕ) (es : List EntryFields) (i : ℕ) (d : EntryFields) → all? entry_writable? (map entry_of es) ≡ true → i < length es
    → PutAt l l₂ p p₂ (entry_bytes (entry_of (get_or es i d))) → p₂ ≤ p + 13
entry-short l l₂ p p₂ es i d w h a = omega (arith, few-at es w i d h, a.place, entry_next 0 (get_or es i d))
