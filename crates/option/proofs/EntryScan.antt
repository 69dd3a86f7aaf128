-- The entries of an information, tested and stored one after another.
-- Assumes nothing.
use Prim.Native.Nat.{ℕ, ◌+◌, ◌-◌, ◌≤◌}
use native.Mathlib.Omega.{arith}
use mathlib.Core.Path.{◌≡◌, refl, sym, ap, ◌∙◌}
use mathlib.Core.Bool.{Bool, true, false, cond, ◌&&◌, and-true, and_assoc}
use mathlib.Core.List.{List, [], ◌∷◌, ◌++◌, map, append_assoc, append-nil, map-append}
use mathlib.Core.Option.{Option, none, some, get_or}
use lib.ListN.{length, set, length-append, length-map}
use Rattle.lists.specs.Lists.{all?}
use Rattle.lists.specs.Put.{put}
use Rattle.lists.specs.Walk.{Turn, more, stop}
use Rattle.lists.proofs.PutLaws.{put-nothing, length-put, set_more}
use Rattle.option.specs.Values.{Entry, SuboptionValue}
use Rattle.option.specs.Rules.{entry_fields?}
use Rattle.option.specs.Reading.{End, bad_at, read_entry, read_entries}
use Rattle.option.specs.Contents.{last_network}
use Rattle.option.specs.Answers.{last_of, InColumns}
use Rattle.option.specs.Inner.{scan_of}
use Rattle.option.specs.declared.{Entries.Entries, Fault.Fault}
use Rattle.option.specs.declared.Fault.TheVariants.{Framing, Field}
use Rattle.std.specs.declared.result.Result.TheVariants.{Ok, Err}
use Rattle.option.proofs.EntryLaws.{entry-moves, entries-more, entries-stop}

-- The entries before at' are read and stored, n in the columns with those that were there, and what is left is to be read from at' on.
pub record Scanning (s : List ℕ) (at end from : ℕ) (ns ls : List ℕ) (at' end' n : ℕ) (fields : Bool) (last : ℕ) (ns' ls' : List ℕ) : Type 0 where
  pub done : List Entry
  pub same : end' ≡ end
  pub within : at' ≤ end
  pub counted : n ≡ from + length done
  pub moved : length done + at ≤ at'
  pub read : read_entries s end at ≡ (done ++ (read_entries s end at').0, (read_entries s end at').1)
  pub good : fields ≡ all? entry_fields? done
  pub final : last ≡ last_of done
  pub networks : ns' ≡ put ns from (map (λ e. e.network) done)
  pub lengths : ls' ≡ put ls from (map (λ e. e.length) done)

-- One entry more.
all_more : (xs : List Entry) (x : Entry) → all? entry_fields? (xs ++ x ∷ []) ≡ (all? entry_fields? xs && entry_fields? x)
all_more [] x = and-true (entry_fields? x)
all_more (y ∷ xs) x = ap (λ (b : Bool). entry_fields? y && b) (all_more xs x) ∙ sym (and_assoc (entry_fields? y) (all? entry_fields? xs) (entry_fields? x))

last_more : (p : Option ℕ) (xs : List Entry) (x : Entry) → last_network p (xs ++ x ∷ []) ≡ some x.network
last_more p [] x = refl
last_more p (y ∷ xs) x = last_more (some y.network) xs x

column-more : (f : Entry → ℕ) (l l₁ l₂ : List ℕ) (from n v : ℕ) (xs : List Entry) (x : Entry) → l₁ ≡ put l from (map f xs) → n ≡ from + length xs → v ≡ f x → l₂ ≡ set l₁ n v
    → l₂ ≡ put l from (map f (xs ++ x ∷ []))
column-more f l l₁ l₂ from n v xs x e₁ en ev e₂ =
    set_more l l₁ l₂ from (map f xs) n (f x) e₁ (en ∙ ap (λ (k : ℕ). from + k) (sym (length-map xs f))) (e₂ ∙ ap (set l₁ n) ev)
    ∙ ap (put l from) (sym (map-append f xs (x ∷ [])))

-- A column keeps its length.
pub column-long : (l l' xs : List ℕ) (from : ℕ) → l' ≡ put l from xs → length l' ≡ length l
column-long l l' xs from e = ap length e ∙ length-put xs l from

module _ (s : List ℕ) (at end from : ℕ) (ns ls : List ℕ) where
  pub scanning-none : at ≤ end → Scanning s at end from ns ls at end from true 0 ns ls
  scanning-none le = record {
    done = [];
    same = refl;
    within = le;
    counted = omega arith;
    moved = omega arith;
    read = refl;
    good = refl;
    final = refl;
    networks = sym (put-nothing ns from);
    lengths = sym (put-nothing ls from);
  }

  module _ {at' end' n : ℕ} {fields : Bool} {last : ℕ} {ns' ls' : List ℕ} (h : Scanning s at end from ns ls at' end' n fields last ns' ls') where
    -- The turn at at' is that of the information's end.
    turn-same : read_entry s end' at' ≡ read_entry s end at'
    turn-same = ap (λ (m : ℕ). read_entry s m at') h.same

    pub scanning-more : (e : Entry) (next end'' : ℕ) → read_entry s end' at' ≡ more e next → end'' ≡ end' → (f : Bool) → f ≡ (fields && entry_fields? e) → (v l : ℕ) → v ≡ e.network → l ≡ e.length
        → (ns'' ls'' : List ℕ) → ns'' ≡ set ns' n v → ls'' ≡ set ls' n l → Scanning s at end from ns ls next end'' (n + 1) f v ns'' ls''
    scanning-more e next end'' t same f ef v l ev el ns'' ls'' en es =
        let turn : read_entry s end at' ≡ more e next = sym turn-same ∙ t in
        let m = entry-moves s end at' e next turn in
        let r = entries-more s end at' h.within e next turn in
        record {
          done = h.done ++ e ∷ [];
          same = same ∙ h.same;
          within = m.1;
          counted = omega (arith, h.counted, length-append h.done (e ∷ []));
          moved = omega (arith, h.moved, m.0, length-append h.done (e ∷ []));
          read =
              h.read
              ∙ ap (λ (q : List Entry × Bool). (h.done ++ q.0, q.1)) r
              ∙ ap (λ (es : List Entry). (es, (read_entries s end next).1)) (sym (append_assoc h.done (e ∷ []) (read_entries s end next).0));
          good = ef ∙ ap (λ (b : Bool). b && entry_fields? e) h.good ∙ sym (all_more h.done e);
          final = ev ∙ ap (λ (o : Option ℕ). get_or o 0) (sym (last_more none h.done e));
          networks = column-more (λ e. e.network) ns ns' ns'' from n v h.done e h.networks h.counted ev en;
          lengths = column-more (λ e. e.length) ls ls' ls'' from n l h.done e h.lengths h.counted el es;
        }

    module _ (b : Bool) (t : read_entry s end' at' ≡ stop b) where
      all_read : read_entries s end at ≡ (h.done, b)
      all_read =
          h.read
          ∙ ap (λ (q : List Entry × Bool). (h.done ++ q.0, q.1)) (entries-stop s end at' h.within b (sym turn-same ∙ t))
          ∙ ap (λ (es : List Entry). (es, b)) (append-nil h.done)

      pub scanning-stop : (f : Bool) → fields ≡ f → cond b (cond f (Ok (record { count = n - from; last = last })) (Err Field)) (Err Framing) ≡ scan_of (read_entries s end at)
      scanning-stop f e =
          let count : n - from ≡ length h.done = omega (arith, h.counted) in
          rw (← e, h.good, h.final, count, all_read) refl

      pub scanning-stored : InColumns (read_entries s end at).0 from ns ls ns' ls'
      scanning-stored = (
        h.networks ∙ ap (λ (q : List Entry × Bool). put ns from (map (λ e. e.network) q.0)) (sym all_read),
        h.lengths ∙ ap (λ (q : List Entry × Bool). put ls from (map (λ e. e.length) q.0)) (sym all_read),
      )

-- What the pass's answer tells of the entries.
scanned : (b f : Bool) (n last : ℕ) (found : Entries) → cond b (cond f (Ok (record { count = n; last = last })) (Err Field)) (Err Framing) ≡ Ok found
    → (b ≡ true) × (f ≡ true) × (record { count = n; last = last } ≡ found)
scanned true true n last found h = (refl, refl, cc)
scanned true false n last found h = absurd cc
scanned false f n last found h = absurd cc

pub scan-good : (r : List Entry × Bool) (found : Entries) → scan_of r ≡ Ok found
    → (r.1 ≡ true) × (all? entry_fields? r.0 ≡ true) × (record { count = length r.0; last = last_of r.0 } ≡ found)
scan-good r found h = scanned r.1 (all? entry_fields? r.0) (length r.0) (last_of r.0) found h

pub scan-bad : (r : List Entry × Bool) (at : ℕ) (t : Turn SuboptionValue End) (fault : Fault) → scan_of r ≡ Err fault
    → cond r.1 (cond (all? entry_fields? r.0) t (stop (bad_at Field at))) (stop (bad_at Framing at)) ≡ stop (bad_at fault at)
scan-bad r at t fault h = go r.1 (all? entry_fields? r.0) (record { count = length r.0; last = last_of r.0 }) h
  where
    go : (b f : Bool) (found : Entries) → cond b (cond f (Ok found) (Err Field)) (Err Framing) ≡ Err fault
        → cond b (cond f t (stop (bad_at Field at))) (stop (bad_at Framing at)) ≡ stop (bad_at fault at)
    go true true found k = absurd cc
    go true false found k = let e : Field ≡ fault = cc in ap (λ (g : Fault). stop (bad_at g at)) e
    go false f found k = let e : Framing ≡ fault = cc in ap (λ (g : Fault). stop (bad_at g at)) e
