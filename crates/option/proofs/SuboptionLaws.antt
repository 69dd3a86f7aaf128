-- Laws of the suboptions of an option, and what an answer of the cursor tells.
-- Assumes nothing.
use Prim.Native.Nat.{ℕ, ◌+◌, ◌-◌, ◌≤◌, ◌<◌}
use native.Mathlib.Omega.{arith}
use mathlib.Core.Path.{◌≡◌, refl, sym, ap, ap₂, ◌∙◌}
use mathlib.Core.List.{List, [], ◌∷◌}
use mathlib.Core.Bool.{Bool, true, false, cond, ◌&&◌}
use lib.ListN.{length, get_or, take, drop, length-take, length-drop}
use lib.Seq.{get_or-take, get_or-drop}
use lib.Dec.{eqb, leb, ltb}
use borrow.Author.Tests.{leb-true, ltb-true}
use Rattle.lists.specs.Walk.{Turn, more, stop}
use Rattle.lists.proofs.Tests.{and-to}
use Rattle.lists.proofs.WalkLaws.{unroll-more, unroll-stop, more-not-stop}
use Rattle.option.specs.Values.{Entry, SuboptionValue, request, information, name, unknown}
use Rattle.option.specs.Rules.{final, fields?}
use Rattle.option.specs.Reading.{End, whole, bad_at, sub_end, sub_inside?, when_good, read_entries, read_request, read_information, read_name, read_body, read_suboption, read_suboptions, ended, option?}
use Rattle.option.proofs.RuleLaws.{option-to}
use Rattle.option.specs.Answers.{suboption_of, cursor_at, step_of, checked_of, checked_end}
use Rattle.option.specs.declared.Fault.{Fault}
use Rattle.option.specs.declared.Fault.TheVariants.{Framing, Field}
use Rattle.option.specs.declared.Suboption.{Suboption}
use Rattle.option.specs.declared.Cursor.{Cursor}
use Rattle.option.specs.declared.BadSuboption.{BadSuboption}
use Rattle.option.specs.declared.OptionFault.TheVariants as refusal
use Rattle.std.specs.declared.option.Option.TheVariants.{None, Some}
use Rattle.std.specs.declared.result.Result.TheVariants.{Ok, Err}

-- The octet that a name ends with is the last byte of its body.
pub final-byte : (s : List ℕ) (at end : ℕ) → at < end → end ≤ length s → final (take (end - at) (drop at s)) ≡ get_or s (end - 1) 0
final-byte s at end some fits =
    let n : length (take (end - at) (drop at s)) - 1 ≡ end - at - 1 = simp (length-take, length-drop) (omega arith) in
    let place : at + (end - at - 1) ≡ end - 1 = omega arith in
    ap (λ (k : ℕ). get_or (take (end - at) (drop at s)) k 0) n
    ∙ get_or-take (end - at) (drop at s) (end - at - 1) 0 (omega arith)
    ∙ get_or-drop at s (end - at - 1) 0
    ∙ ap (λ (k : ℕ). get_or s k 0) place

-- A suboption that is good: its framing is right, its fields keep the rules, and the reading goes on after it.
pub good-read : (framed : Bool) (x : SuboptionValue) (at end : ℕ) (y : SuboptionValue) (next : ℕ) → when_good framed x at end ≡ more y next
    → (framed ≡ true) × (fields? x ≡ true) × (x ≡ y) × (end ≡ next)
unfolding when_good
good-read framed x at end y next h = go framed (fields? x) h
  where
    go : (b c : Bool) → cond b (cond c (more x end) (stop (bad_at Field at))) (stop (bad_at Framing at)) ≡ more y next → (b ≡ true) × (c ≡ true) × (x ≡ y) × (end ≡ next)
    go true true k = (refl, refl, cc, cc)
    go true false k = let z : ◌≡◌ {A = ℕ} 0 1 = cc in absurd (omega arith)
    go false c k = let z : ◌≡◌ {A = ℕ} 0 1 = cc in absurd (omega arith)

-- A turn that gives a suboption: it lies inside, and its body reads as that.
chosen : (p q : Bool) (t : Turn SuboptionValue End) (at : ℕ) (x : SuboptionValue) (next : ℕ)
    → cond p (stop whole) (cond q t (stop (bad_at Framing at))) ≡ more x next → (q ≡ true) × (t ≡ more x next)
chosen true q t at x next h = let z : ◌≡◌ {A = ℕ} 0 1 = cc in absurd (omega arith)
chosen false true t at x next h = (refl, h)
chosen false false t at x next h = let z : ◌≡◌ {A = ℕ} 0 1 = cc in absurd (omega arith)

pub record SuboptionRead (s : List ℕ) (at : ℕ) (x : SuboptionValue) (next : ℕ) : Type 0 where
  pub head : at + 2 ≤ length s
  pub fits : sub_end s at ≤ length s
  pub body : read_body (get_or s at 0) s at (sub_end s at) ≡ more x next

pub suboption-read : (s : List ℕ) (at : ℕ) (x : SuboptionValue) (next : ℕ) → read_suboption s at ≡ more x next → SuboptionRead s at x next
unfolding read_suboption sub_inside?
suboption-read s at x next h =
    let c = chosen (leb (length s) at) (leb (at + 2) (length s) && leb (sub_end s at) (length s)) (read_body (get_or s at 0) s at (sub_end s at)) at x next h in
    let t = and-to (leb (at + 2) (length s)) (leb (sub_end s at) (length s)) c.0 in
    record { head = leb-true _ _ t.0; fits = leb-true _ _ t.1; body = c.1 }

-- A reading that, if it gives a suboption, ends at n.
abbrev pub EndsAt : ℕ → Turn SuboptionValue End → Type 0
EndsAt n t = (x : SuboptionValue) (next : ℕ) → t ≡ more x next → n ≡ next

cond-ends : (b : Bool) (n : ℕ) (t u : Turn SuboptionValue End) → EndsAt n t → EndsAt n u → EndsAt n (cond b t u)
cond-ends true n t u p q = p
cond-ends false n t u p q = q

pub body-ends : (number : ℕ) (s : List ℕ) (at end : ℕ) → EndsAt end (read_body number s at end)
unfolding read_body read_request read_information read_name
body-ends number s at end =
    cond-ends (eqb number 1) end (read_request s at end) _ (λ x next h. (good-read _ _ at end x next h).3)
    (cond-ends (eqb number 2) end (read_information s at end) _ (λ x next h. (good-read _ _ at end x next h).3)
    (cond-ends (eqb number 3) end (read_name s at end) _ (λ x next h. (good-read _ _ at end x next h).3)
    (λ x next h. cc)))

pub suboption-ends : (s : List ℕ) (at : ℕ) (x : SuboptionValue) (next : ℕ) → read_suboption s at ≡ more x next → sub_end s at ≡ next
suboption-ends s at x next h = body-ends (get_or s at 0) s at (sub_end s at) x next (suboption-read s at x next h).body

pub suboption-moves : (s : List ℕ) (at : ℕ) (x : SuboptionValue) (next : ℕ) → read_suboption s at ≡ more x next → (at < next) × (next ≤ length s)
suboption-moves s at x next h =
    let r = suboption-read s at x next h in
    omega (arith, r.fits, suboption-ends s at x next h)

module _ (s : List ℕ) (at : ℕ) (le : at ≤ length s) where
  pub suboptions-more : (x : SuboptionValue) (next : ℕ) → read_suboption s at ≡ more x next
      → read_suboptions s at ≡ (x ∷ (read_suboptions s next).0, (read_suboptions s next).1)
  unfolding read_suboptions
  suboptions-more x next h = unroll-more (read_suboption s) whole (length s) (suboption-moves s) at x next le h

  pub suboptions-stop : (e : End) → read_suboption s at ≡ stop e → read_suboptions s at ≡ ([], e)
  unfolding read_suboptions
  suboptions-stop e h = unroll-stop (read_suboption s) whole (length s) (suboption-moves s) at e le h

-- What an answer of the cursor tells: the suboption's value, and where the reading goes on.
pub told-piece : (at : ℕ) (t : Turn SuboptionValue End) (f : Suboption) (c : Cursor) → step_of at t ≡ Ok (Some (f, c))
    → (x : SuboptionValue) × (t ≡ more x c.at) × (f ≡ suboption_of x at c.at)
told-piece at (more x n) f c h =
    let both : ◌≡◌ {A = Suboption × Cursor} (suboption_of x at n, cursor_at n) (f, c) = cc in
    let place : n ≡ c.at = ap (λ p. p.1.at) both in
    (x, ap (more x) place, sym (ap (λ p. p.0) both) ∙ ap (suboption_of x at) place)
told-piece at (stop whole) f c h = absurd cc
told-piece at (stop (bad_at e p)) f c h = absurd cc

pub told-bad : (at : ℕ) (t : Turn SuboptionValue End) (bad : BadSuboption) → step_of at t ≡ Err bad → t ≡ stop (bad_at bad.fault bad.place)
told-bad at (more x n) bad h = absurd cc
told-bad at (stop whole) bad h = absurd cc
told-bad at (stop (bad_at fault place)) bad h =
    let same : record { fault = fault; place = place } ≡ bad = cc in
    ap (λ (b : BadSuboption). stop (bad_at b.fault b.place)) same

pub told-end : (at : ℕ) (t : Turn SuboptionValue End) → step_of at t ≡ Ok None → t ≡ stop whole
told-end at (more x n) h = absurd cc
told-end at (stop whole) h = refl
told-end at (stop (bad_at e p)) h = absurd cc

-- The check's answer goes by how the reading ends alone.
pub checked-whole : (subs : List SuboptionValue) (e : End) (u : Unit {0}) → checked_end e ≡ Ok u → checked_of (ended subs e) ≡ Ok tt
checked-whole subs whole u h = refl
checked-whole subs (bad_at fault place) u h = absurd cc

pub checked-bad : (subs : List SuboptionValue) (e : End) (bad : BadSuboption) → checked_end e ≡ Err bad → checked_of (ended subs e) ≡ Err (refusal.BadSuboption bad)
checked-bad subs whole bad h = absurd cc
checked-bad subs (bad_at Framing place) bad h = let same : record { fault = Framing; place = place } ≡ bad = cc in ap (λ (b : BadSuboption). Err (refusal.BadSuboption b)) same
checked-bad subs (bad_at Field place) bad h = let same : record { fault = Field; place = place } ≡ bad = cc in ap (λ (b : BadSuboption). Err (refusal.BadSuboption b)) same

-- An information among the suboptions: its entries are those from its fourth byte to its end, all framed, and all blocks.
body-entries : (one two three : Bool) (f₁ f₂ f₃ : Bool) (h i : Bool) (p : ℕ) (c t : Bool) (es : List Entry) (o : List ℕ) (at end : ℕ) (c' t' : Bool) (es' : List Entry) (next : ℕ)
    → cond one (when_good f₁ (request h i p) at end) (cond two (when_good f₂ (information c t es) at end) (cond three (when_good f₃ (name o) at end) (more unknown end)))
    ≡ more (information c' t' es') next → (f₂ ≡ true) × (es ≡ es') × (end ≡ next)
body-entries true two three f₁ f₂ f₃ h i p c t es o at end c' t' es' next e =
    let g = good-read f₁ (request h i p) at end (information c' t' es') next e in
    let w = g.2 in
    let z : ◌≡◌ {A = ℕ} 0 1 = cc in absurd (omega arith)
body-entries false true three f₁ f₂ f₃ h i p c t es o at end c' t' es' next e =
    let g = good-read f₂ (information c t es) at end (information c' t' es') next e in
    let w = g.2 in
    (g.0, cc, g.3)
body-entries false false true f₁ f₂ f₃ h i p c t es o at end c' t' es' next e =
    let g = good-read f₃ (name o) at end (information c' t' es') next e in
    let w = g.2 in
    let z : ◌≡◌ {A = ℕ} 0 1 = cc in absurd (omega arith)
body-entries false false false f₁ f₂ f₃ h i p c t es o at end c' t' es' next e =
    let z : ◌≡◌ {A = ℕ} 0 1 = cc in absurd (omega arith)

pub information-entries : (s : List ℕ) (at : ℕ) (c t : Bool) (es : List Entry) (next : ℕ) → read_suboption s at ≡ more (information c t es) next
    → (at + 3 < next) × (read_entries s next (at + 3) ≡ (es, true))
unfolding read_body read_request read_information read_name
information-entries s at c t es next h =
    let r = suboption-read s at (information c t es) next h in
    let end : ℕ = sub_end s at in
    let n : ℕ = get_or s at 0 in
    let all : List Entry × Bool = read_entries s end (at + 3) in
    let g = body-entries (eqb n 1) (eqb n 2) (eqb n 3) _ (ltb (at + 3) end && all.1) _ _ _ _ _ _ all.0 _ at end c t es next r.body in
    let f = and-to (ltb (at + 3) end) all.1 g.0 in
    let some : at + 3 < end = ltb-true (at + 3) end f.0 in
    let last : end ≡ next = g.2 in
    (omega arith, ap (λ (m : ℕ). read_entries s m (at + 3)) (sym last) ∙ ap₂ (λ (x : List Entry) (y : Bool). (x, y)) g.1 f.1)

-- A name among the suboptions: its octets are the bytes from its third to its end, and it has one.
body-octets : (one two three : Bool) (f₁ f₂ f₃ : Bool) (h i : Bool) (p : ℕ) (c t : Bool) (es : List Entry) (o : List ℕ) (at end : ℕ) (o' : List ℕ) (next : ℕ)
    → cond one (when_good f₁ (request h i p) at end) (cond two (when_good f₂ (information c t es) at end) (cond three (when_good f₃ (name o) at end) (more unknown end)))
    ≡ more (name o') next → (f₃ ≡ true) × (o ≡ o') × (end ≡ next)
body-octets true two three f₁ f₂ f₃ h i p c t es o at end o' next e =
    let g = good-read f₁ (request h i p) at end (name o') next e in
    let w = g.2 in
    let z : ◌≡◌ {A = ℕ} 0 1 = cc in absurd (omega arith)
body-octets false true three f₁ f₂ f₃ h i p c t es o at end o' next e =
    let g = good-read f₂ (information c t es) at end (name o') next e in
    let w = g.2 in
    let z : ◌≡◌ {A = ℕ} 0 1 = cc in absurd (omega arith)
body-octets false false true f₁ f₂ f₃ h i p c t es o at end o' next e =
    let g = good-read f₃ (name o) at end (name o') next e in
    let w = g.2 in
    (g.0, cc, g.3)
body-octets false false false f₁ f₂ f₃ h i p c t es o at end o' next e =
    let z : ◌≡◌ {A = ℕ} 0 1 = cc in absurd (omega arith)

pub name-octets : (s : List ℕ) (at : ℕ) (o : List ℕ) (next : ℕ) → read_suboption s at ≡ more (name o) next
    → (at + 2 < next) × (take (next - (at + 2)) (drop (at + 2) s) ≡ o)
unfolding read_body read_request read_information read_name
name-octets s at o next h =
    let r = suboption-read s at (name o) next h in
    let end : ℕ = sub_end s at in
    let n : ℕ = get_or s at 0 in
    let g = body-octets (eqb n 1) (eqb n 2) (eqb n 3) _ _ (ltb (at + 2) end) _ _ _ _ _ _ (take (end - (at + 2)) (drop (at + 2) s)) at end o next r.body in
    let some : at + 2 < end = ltb-true (at + 2) end g.0 in
    let last : end ≡ next = g.2 in
    (omega arith, ap (λ (m : ℕ). take (m - (at + 2)) (drop (at + 2) s)) (sym last) ∙ g.1)

-- Only the end of the option is the end of a reading that is whole.
pub good-not-whole : (framed : Bool) (x : SuboptionValue) (at end : ℕ) → when_good framed x at end ≡ stop whole → ⊥
unfolding when_good
good-not-whole framed x at end h = go framed (fields? x) h
  where
    go : (b c : Bool) → cond b (cond c (more x end) (stop (bad_at Field at))) (stop (bad_at Framing at)) ≡ stop whole → ⊥
    go true true k = let z : ◌≡◌ {A = ℕ} 0 1 = cc in omega arith
    go true false k = let z : ◌≡◌ {A = ℕ} 0 1 = cc in omega arith
    go false c k = let z : ◌≡◌ {A = ℕ} 0 1 = cc in omega arith

cond-not : (b : Bool) (t u : Turn SuboptionValue End) → (t ≡ stop whole → ⊥) → (u ≡ stop whole → ⊥) → cond b t u ≡ stop whole → ⊥
cond-not true t u p q = p
cond-not false t u p q = q

body-not-whole : (number : ℕ) (s : List ℕ) (at end : ℕ) → read_body number s at end ≡ stop whole → ⊥
unfolding read_body read_request read_information read_name
body-not-whole number s at end =
    cond-not (eqb number 1) (read_request s at end) _ (good-not-whole _ _ at end)
    (cond-not (eqb number 2) (read_information s at end) _ (good-not-whole _ _ at end)
    (cond-not (eqb number 3) (read_name s at end) _ (good-not-whole _ _ at end)
    (λ (h : more unknown end ≡ stop whole). let z : ◌≡◌ {A = ℕ} 0 1 = cc in omega arith)))

finished : (p q : Bool) (t : Turn SuboptionValue End) (at : ℕ) → (t ≡ stop whole → ⊥) → cond p (stop whole) (cond q t (stop (bad_at Framing at))) ≡ stop whole → p ≡ true
finished true q t at never h = refl
finished false true t at never h = absurd (never h)
finished false false t at never h = let z : ◌≡◌ {A = ℕ} 0 1 = cc in absurd (omega arith)

pub suboption-whole : (s : List ℕ) (at : ℕ) → read_suboption s at ≡ stop whole → length s ≤ at
unfolding read_suboption
suboption-whole s at h =
    leb-true (length s) at
    (finished (leb (length s) at) (sub_inside? s at) (read_body (get_or s at 0) s at (sub_end s at)) at (body-not-whole (get_or s at 0) s at (sub_end s at)) h)

-- A body that is bad is so at its suboption.
abbrev pub StopsAt : ℕ → Turn SuboptionValue End → Type 0
StopsAt at t = (b : End) → t ≡ stop b → (fault : Fault) × (b ≡ bad_at fault at)

cond-stops : (b : Bool) (at : ℕ) (t u : Turn SuboptionValue End) → StopsAt at t → StopsAt at u → StopsAt at (cond b t u)
cond-stops true at t u p q = p
cond-stops false at t u p q = q

good-stops : (framed : Bool) (x : SuboptionValue) (at end : ℕ) → StopsAt at (when_good framed x at end)
unfolding when_good
good-stops framed x at end = go framed (fields? x)
  where
    go : (p q : Bool) → StopsAt at (cond p (cond q (more x end) (stop (bad_at Field at))) (stop (bad_at Framing at)))
    go true true b e = absurd (more-not-stop x end b e)
    go true false b e = let z : bad_at Field at ≡ b = cc in (Field, sym z)
    go false q b e = let z : bad_at Framing at ≡ b = cc in (Framing, sym z)

pub body-stops : (number : ℕ) (s : List ℕ) (at end : ℕ) → StopsAt at (read_body number s at end)
unfolding read_body read_request read_information read_name
body-stops number s at end =
    cond-stops (eqb number 1) at (read_request s at end) _ (good-stops _ _ at end)
    (cond-stops (eqb number 2) at (read_information s at end) _ (good-stops _ _ at end)
    (cond-stops (eqb number 3) at (read_name s at end) _ (good-stops _ _ at end)
    (λ b e. absurd (more-not-stop unknown end b e))))

-- Row 6 passed: Code, Len, flags and one byte more.
pub option-long : (s : List ℕ) → option? s ≡ true → 4 ≤ length s
option-long s e = let t = option-to s e in omega (arith, t.0.len, t.1)
