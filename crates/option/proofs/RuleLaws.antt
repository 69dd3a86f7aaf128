-- What the tests decide: each says what document 01's rule says.
-- Assumes nothing.
use Prim.Native.Nat.{ℕ, ◌+◌, ◌≤◌}
use native.Mathlib.Omega.{arith}
use mathlib.Core.Path.{◌≡◌, refl}
use mathlib.Core.Bool.{Bool, true, false, cond, not, ◌&&◌}
use mathlib.Core.List.{List}
use lib.ListN.{length, get_or}
use lib.Dec.{eqb, leb}
use borrow.Author.Tests.{leb-true, eqb-true, eqb-false, not-true, le-leb, eq-eqb, ne_eqb}
use Rattle.lists.specs.Lists.{All, all?}
use Rattle.lists.proofs.Tests.{and-to, and-of, all?-to, all?-of}
use Rattle.std.specs.Prelude.{Ok, Err}
use Rattle.prefix.specs.declared.Prefix.{Prefix}
use Rattle.prefix.specs.declared.PrefixFault.TheVariants.{BadLength, Misaligned}
use Rattle.prefix.specs.Prefixes.{prefix, Aligned, aligned?, shortest, longest}
use Rattle.prefix.proofs.PrefixLaws.{aligned-to, aligned-of}
use Rattle.option.specs.Values.{Entry, SuboptionValue, request, information, name, unknown}
use Rattle.option.specs.Rules.{block?, final, entry_fields?, fields?}
use Rattle.option.specs.Reading.{option?}
use Rattle.option.specs.Writer.{entry_writable?, writable?}
use Rattle.option.specs.Selection.{selection?}

-- Rule 4: a block.
pub record Block (network length' : ℕ) : Type 0 where
  pub short : shortest ≤ length'
  pub long : length' ≤ longest
  pub aligned : Aligned (prefix network length')

block_to : (b c : Bool) (p : Prefix) → block? (cond (not b) (Err BadLength) (cond c (Ok p) (Err Misaligned))) ≡ true → (b ≡ true) × (c ≡ true)
block_to true true p h = (refl, refl)
block_to true false p h = cc
block_to false c p h = cc

pub entry-fields-to : (e : Entry) → entry_fields? e ≡ true → Block e.network e.length
unfolding entry_fields?
entry-fields-to e h =
    let p = prefix e.network e.length in
    let t = block_to (leb shortest e.length && leb e.length longest) (aligned? p) p h in
    let r = and-to (leb shortest e.length) (leb e.length longest) t.0 in
    record { short = leb-true _ _ r.0; long = leb-true _ _ r.1; aligned = aligned-to p t.1 }

pub entry-fields-of : (e : Entry) → Block e.network e.length → entry_fields? e ≡ true
unfolding entry_fields?
entry-fields-of e b = simp (le-leb _ _ b.short, le-leb _ _ b.long, aligned-of (prefix e.network e.length) b.aligned)

-- Rules 3, 4 and 5 of a suboption's fields.
abbrev pub FieldsKept : SuboptionValue → Type 0
FieldsKept (request h i length') = length' ≤ longest
FieldsKept (information c s entries) = All (λ e. Block e.network e.length) entries
FieldsKept (name octets) = final octets ≡ 0 → ⊥
FieldsKept unknown = Unit {0}

pub fields-to : (x : SuboptionValue) → fields? x ≡ true → FieldsKept x
unfolding fields?
fields-to (request h i l) e = leb-true _ _ e
fields-to (information c s entries) e = all?-to entry_fields? entry-fields-to entries e
fields-to (name octets) e = eqb-false _ _ (not-true _ e)
fields-to unknown e = tt

pub fields-of : (x : SuboptionValue) → FieldsKept x → fields? x ≡ true
unfolding fields?
fields-of (request h i l) k = le-leb _ _ k
fields-of (information c s entries) k = all?-of entry_fields? entry-fields-of entries k
fields-of (name octets) k = simp (ne_eqb _ _ k)
fields-of unknown k = refl

-- What can be written.
pub entry-writable-of : (e : Entry) → length e.figures ≤ 3 → Block e.network e.length → entry_writable? e ≡ true
unfolding entry_writable?
entry-writable-of e few b = and-of _ _ (le-leb _ _ few) (entry-fields-of e b)

pub entry-writable-to : (e : Entry) → entry_writable? e ≡ true → (length e.figures ≤ 3) × Block e.network e.length
unfolding entry_writable?
entry-writable-to e w =
    let t = and-to (leb (length e.figures) 3) (entry_fields? e) w in
    (leb-true _ _ t.0, entry-fields-to e t.1)

-- Row 13: a suboption that keeps the rules, with one or more entries, of at most three figures each, or one or more octets.
abbrev pub Writable : SuboptionValue → Type 0
Writable (request h i length') = length' ≤ longest
Writable (information c s entries) = (1 ≤ length entries) × All (λ e. (length e.figures ≤ 3) × Block e.network e.length) entries
Writable (name octets) = (1 ≤ length octets) × (final octets ≡ 0 → ⊥)
Writable unknown = ⊥

pub writable-to : (x : SuboptionValue) → writable? x ≡ true → Writable x
unfolding writable?
writable-to (request h i l) w = fields-to (request h i l) w
writable-to (information c s entries) w =
    let t = and-to (leb 1 (length entries)) (all? entry_writable? entries) w in
    (leb-true _ _ t.0, all?-to entry_writable? entry-writable-to entries t.1)
writable-to (name octets) w =
    let t = and-to (leb 1 (length octets)) (fields? (name octets)) w in
    (leb-true _ _ t.0, fields-to (name octets) t.1)
writable-to unknown w = let z : ◌≡◌ {A = Bool} false true = w in let y : ◌≡◌ {A = ℕ} 0 1 = cc in absurd (omega arith)

pub writable-of : (x : SuboptionValue) → Writable x → writable? x ≡ true
unfolding writable?
writable-of (request h i l) k = fields-of (request h i l) k
writable-of (information c s entries) k =
    and-of _ _ (le-leb _ _ k.0) (all?-of entry_writable? (λ e b. entry-writable-of e b.0 b.1) entries k.1)
writable-of (name octets) k = and-of _ _ (le-leb _ _ k.0) (fields-of (name octets) k.1)
writable-of unknown k = absurd k

-- Row 6, of options 220 and 118.
pub record Framed (code : ℕ) (s : List ℕ) : Type 0 where
  pub two_bytes : 2 ≤ length s
  pub code-byte : get_or s 0 0 ≡ code
  pub len : get_or s 1 0 + 2 ≡ length s

pub option-to : (s : List ℕ) → option? s ≡ true → Framed 220 s × (2 ≤ get_or s 1 0)
unfolding option?
option-to s h =
    let a = and-to (leb 2 (length s)) _ h in
    let b = and-to (eqb (get_or s 0 0) 220) _ a.1 in
    let c = and-to (eqb (get_or s 1 0 + 2) (length s)) (leb 2 (get_or s 1 0)) b.1 in
    (record { two_bytes = leb-true _ _ a.0; code-byte = eqb-true _ _ b.0; len = eqb-true _ _ c.0 }, leb-true _ _ c.1)

pub option-of : (s : List ℕ) → Framed 220 s → 2 ≤ get_or s 1 0 → option? s ≡ true
unfolding option?
option-of s f some = simp (le-leb _ _ f.two_bytes, eq-eqb _ _ f.code-byte, eq-eqb _ _ f.len, le-leb _ _ some)

pub selection-to : (s : List ℕ) → selection? s ≡ true → Framed 118 s × (get_or s 1 0 ≡ 4)
unfolding selection?
selection-to s h =
    let a = and-to (leb 2 (length s)) _ h in
    let b = and-to (eqb (get_or s 0 0) 118) _ a.1 in
    let c = and-to (eqb (get_or s 1 0 + 2) (length s)) (eqb (get_or s 1 0) 4) b.1 in
    (record { two_bytes = leb-true _ _ a.0; code-byte = eqb-true _ _ b.0; len = eqb-true _ _ c.0 }, eqb-true _ _ c.1)

pub selection-of : (s : List ℕ) → Framed 118 s → get_or s 1 0 ≡ 4 → selection? s ≡ true
unfolding selection?
selection-of s f four = simp (le-leb _ _ f.two_bytes, eq-eqb _ _ f.code-byte, eq-eqb _ _ f.len, eq-eqb _ _ four)
