-- What the tests of a lease record decide: it is read, and it is as a sound table has it wherever it lies.
-- Assumes nothing.
use Prim.Native.Nat.{ℕ, ◌+◌, ◌-◌, ◌/◌, ◌%◌, ◌≤◌, ◌<◌}
use mathlib.Core.Path.{◌≡◌, sym, ap, ◌∙◌}
use mathlib.Core.Logic.{⊎_elim}
use mathlib.Core.Bool.{Bool, true, false, true≢false}
use mathlib.Core.List.{List, [], ◌∷◌}
use mathlib.Core.Option.{none, some}
use native.Mathlib.Omega.{arith}
use lib.ListN.{length}
use lib.Dec.{leb, eqb}
use borrow.Author.Tests.{leb-true, le-leb, ltb-true, lt-ltb, eqb-true, eqb-false, eq-eqb, ne_eqb, not-true}
use Rattle.lists.specs.Lists.{and, any?}
use Rattle.lists.proofs.Tests.{bool_cases, cond-true, cond-false, not-of, not-true⇒false, and-list-to, and-list-of}
use Rattle.prefix.specs.declared.Prefix.{Prefix}
use Rattle.prefix.specs.Prefixes.{end, Aligned, inside?}
use Rattle.prefix.proofs.PrefixLaws.{aligned-to, aligned-of}
use Rattle.table.specs.declared.Lease.{Lease}
use Rattle.table.specs.Table.{lease_rules, lease_ok, empty?}
use Rattle.table.proofs.TableLaws.{long-not-empty}
use Rattle.image.specs.declared.Form.{Form}
use Rattle.image.specs.declared.Form.TheVariants.{First, Second}
use Rattle.image.specs.Fields.{number16, number32}
use Rattle.image.specs.Image.{lease_size_in, lease_kind}
use Rattle.image.specs.Reading.{lease_fields_in, lease_tests_in, lease_at_in, name_test, client_in, expires_in, flags_byte_in, length_in, network_in, state_byte_in}
use Rattle.image.proofs.FieldLaws.{Bytes, start-of}
use Rattle.image.proofs.ImageLaws.{some_same}
use Rattle.std.specs.Prelude.{Some, None}
use Rattle.image_check.specs.declared.Fit.{Fit}
use Rattle.image_check.specs.Inner.{lease_start, prefix_in, state_and_flags?, fit_tests, fit_of, fit_at}

-- The bits of one more than the state, which is the second byte of a word, and of the flags, its third.
half-next : (word : ℕ) → (word + 256) / 512 % 128 ≡ (word / 256 + 1) % 256 / 2
half-next word =
    let a : (word + 256) / 512 ≡ (word / 256 + 1) / 2 = omega arith in
    let b : (q : ℕ) → (q + 1) / 2 % 128 ≡ (q + 1) % 256 / 2 = λ q. omega arith in
    ap (λ (t : ℕ). t % 128) a ∙ b (word / 256)

byte_next : (q : ℕ) → 2 ≤ (q + 1) % 256 → q % 256 + 1 ≡ (q + 1) % 256
byte_next q h = omega arith

next-byte : (q : ℕ) → q % 256 ≤ 2 → (q + 1) % 256 ≡ q % 256 + 1
next-byte q h = omega arith

state-of : (word : ℕ) → (word + 256) / 512 % 128 ≡ 1 → (1 ≤ word / 256 % 256) × (word / 256 % 256 ≤ 2)
state-of word e =
    let h : (word / 256 + 1) % 256 / 2 ≡ 1 = sym (half-next word) ∙ e in
    let n = byte_next (word / 256) (omega (arith, h)) in
    (omega (arith, h, n), omega (arith, h, n))

state-to : (word : ℕ) → 1 ≤ word / 256 % 256 → word / 256 % 256 ≤ 2 → (word + 256) / 512 % 128 ≡ 1
state-to word a b = let n = next-byte (word / 256) b in half-next word ∙ omega (arith, n)

flags_of : (word : ℕ) → word / 256 % 256 ≤ 2 → (word + 256) / 262144 % 64 ≡ 0 → word / 65536 % 256 ≤ 3
flags_of word s e = omega arith

flags-to : (word : ℕ) → word / 256 % 256 ≤ 2 → word / 65536 % 256 ≤ 3 → (word + 256) / 262144 % 64 ≡ 0
flags-to word s e = omega arith

abbrev bytes_ok : ℕ → List Bool
bytes_ok word = leb 1 (word / 256 % 256) ∷ leb (word / 256 % 256) 2 ∷ leb (word / 65536 % 256) 3 ∷ []

module _ (word : ℕ) where
  pub state-bad : ((word + 256) / 512 % 128 ≡ 1 → ⊥) → false ≡ state_and_flags? word
  state-bad h = sym (not-true⇒false (and (bytes_ok word)) (λ e. let t = and-list-to (bytes_ok word) e in h (state-to word (leb-true 1 (word / 256 % 256) t.0) (leb-true (word / 256 % 256) 2 t.1.0))))

  pub flags-tell : (word + 256) / 512 % 128 ≡ 1 → eqb ((word + 256) / 262144 % 64) 0 ≡ state_and_flags? word
  flags-tell h =
      let s = state-of word h in
      ⊎_elim
      (λ (b : eqb ((word + 256) / 262144 % 64) 0 ≡ true).
      b ∙ sym (and-list-of (bytes_ok word) (le-leb 1 (word / 256 % 256) s.0, (le-leb (word / 256 % 256) 2 s.1, (le-leb (word / 65536 % 256) 3 (flags_of word s.1 (eqb-true ((word + 256) / 262144 % 64) 0 b)), tt)))))
      (λ (b : eqb ((word + 256) / 262144 % 64) 0 ≡ false).
      b ∙ sym (not-true⇒false (and (bytes_ok word)) (λ e. let t = and-list-to (bytes_ok word) e in eqb-false ((word + 256) / 262144 % 64) 0 b (flags-to word s.1 (leb-true (word / 65536 % 256) 3 t.1.1.0)))))
      (bool_cases (eqb ((word + 256) / 262144 % 64) 0))

  pub bytes-told : state_and_flags? word ≡ true → (1 ≤ word / 256 % 256) × (word / 256 % 256 ≤ 2) × (word / 65536 % 256 ≤ 3)
  bytes-told e =
      let t = and-list-to (bytes_ok word) e in
      (leb-true 1 (word / 256 % 256) t.0, leb-true (word / 256 % 256) 2 t.1.0, leb-true (word / 65536 % 256) 3 t.1.1.0)

-- What the two tests tell of state and flags.
pub ruleset state_and_flags_rules = (state-bad, flags-tell)

-- The word from the length on, by its bytes.
pub word_bytes : (s : List ℕ) → Bytes s → (word : ℕ) → word ≡ number32 s 8 → (word % 256 ≡ length_in s) × (word / 256 % 256 ≡ state_byte_in s) × (word / 65536 % 256 ≡ flags_byte_in s)
unfolding number32
word_bytes s bytes word e = (omega (arith, bytes 8, bytes 9, bytes 10), omega (arith, bytes 8, bytes 9, bytes 10), omega (arith, bytes 8, bytes 9, bytes 10))

pub size-least : (form : Form) → 19 ≤ lease_size_in form
size-least First = omega arith
size-least Second = omega arith

size_small : (form : Form) → lease_size_in form - 2 < 65536
size_small First = omega arith
size_small Second = omega arith

pub record Fits (form : Form) (last : ℕ) (s : List ℕ) : Type 0 where
  pub start : number32 s 0 ≡ lease_start form
  pub short : 1 ≤ length_in s
  pub long : length_in s ≤ 30
  pub low : 1 ≤ state_byte_in s
  pub high : state_byte_in s ≤ 2
  pub flags : flags_byte_in s ≤ 3
  pub client : client_in s ≡ 0 → ⊥
  pub later : last < expires_in s
  pub aligned : Aligned (prefix_in s)
  pub named : name_test form s ≡ true

-- The fields that were read of a record that fits.
pub record Met (form : Form) (last : ℕ) (s : List ℕ) (found : Fit) : Type 0 where
  pub fits : Fits form last s
  pub starts : found.network ≡ network_in s
  pub ends : found.end ≡ end (prefix_in s)
  pub until : found.expires ≡ expires_in s

module _ (form : Form) (last : ℕ) (s : List ℕ) where
  pub fits-to : and (fit_tests form last s) ≡ true → Fits form last s
  fits-to e =
      let t = and-list-to (fit_tests form last s) e in
      record {
        start = eqb-true (number32 s 0) (lease_start form) t.0;
        short = leb-true 1 (length_in s) t.1.0;
        long = leb-true (length_in s) 30 t.1.1.0;
        low = leb-true 1 (state_byte_in s) t.1.1.1.0;
        high = leb-true (state_byte_in s) 2 t.1.1.1.1.0;
        flags = leb-true (flags_byte_in s) 3 t.1.1.1.1.1.0;
        client = eqb-false (client_in s) 0 (not-true (eqb (client_in s) 0) t.1.1.1.1.1.1.0);
        later = ltb-true last (expires_in s) t.1.1.1.1.1.1.1.0;
        aligned = aligned-to (prefix_in s) t.1.1.1.1.1.1.1.1.0;
        named = t.1.1.1.1.1.1.1.1.1.0;
      }

  pub fits-of : Fits form last s → and (fit_tests form last s) ≡ true
  fits-of f =
      rw (
        eq-eqb (number32 s 0) (lease_start form) f.start,
        le-leb 1 (length_in s) f.short,
        le-leb (length_in s) 30 f.long,
        le-leb 1 (state_byte_in s) f.low,
        le-leb (state_byte_in s) 2 f.high,
        le-leb (flags_byte_in s) 3 f.flags,
        ne_eqb (client_in s) 0 f.client,
        lt-ltb last (expires_in s) f.later,
        aligned-of (prefix_in s) f.aligned,
        f.named,
      )

  pub fit-other : (Fits form last s → ⊥) → None ≡ fit_at form last s
  unfolding fit_at
  fit-other h = sym (cond-false (and (fit_tests form last s)) (Some (fit_of s)) None (not-true⇒false (and (fit_tests form last s)) (λ e. h (fits-to e))))

  pub fit-lease : Fits form last s → Some (fit_of s) ≡ fit_at form last s
  unfolding fit_at
  fit-lease f = sym (cond-true (and (fit_tests form last s)) (Some (fit_of s)) None (fits-of f))

  -- State and flags of one that fits.
  pub fits-bytes : Fits form last s → (word : ℕ) → word / 256 % 256 ≡ state_byte_in s → word / 65536 % 256 ≡ flags_byte_in s → state_and_flags? word ≡ true
  fits-bytes f word a b =
      and-list-of (bytes_ok word) (
        le-leb 1 (word / 256 % 256) (omega (arith, f.low)),
        (le-leb (word / 256 % 256) 2 (omega (arith, f.high)), (le-leb (word / 65536 % 256) 3 (omega (arith, f.flags)), tt)),
      )

  -- What an answer tells.
  pub other-unfit : fit_at form last s ≡ None → Fits form last s → ⊥
  other-unfit e f = let b = fit-lease f in cc

  pub lease-met : (found : Fit) → fit_at form last s ≡ Some found → Met form last s found
  lease-met found e =
      ⊎_elim
      (λ (b : and (fit_tests form last s) ≡ true).
      let f = fits-to b in
      let g = fit-lease f in
      record { fits = f; starts = cc; ends = cc; until = cc })
      (λ (b : and (fit_tests form last s) ≡ false).
      let g = fit-other (λ f. true≢false (sym (fits-of f) ∙ b)) in
      absurd (cc))
      (bool_cases (and (fit_tests form last s)))

  -- A record that fits is read.
  module _ (bytes : Bytes s) (whole : lease_size_in form ≤ length s) where
    pub fits_read : Fits form last s → lease_at_in form s ≡ some (lease_fields_in form s)
    unfolding lease_at_in number16 number32
    fits_read f =
        let start = start-of s bytes (lease_size_in form - 2) (lease_kind form) (size_small form) f.start in
        cond-true (and (lease_tests_in form s)) (some (lease_fields_in form s)) none
        (and-list-of (lease_tests_in form s) (
          le-leb (lease_size_in form) (length s) whole,
          (
            eq-eqb (number16 s 0) (lease_size_in form - 2) start.0,
            (
              eq-eqb (number16 s 2) (lease_kind form) start.1,
              (
                le-leb 1 (state_byte_in s) f.low,
                (
                  le-leb (state_byte_in s) 2 f.high,
                  (le-leb (flags_byte_in s) 3 f.flags, (f.named, (not-of (empty? (lease_fields_in form s)) (long-not-empty (lease_fields_in form s) f.short), tt))),
                ),
              ),
            ),
          ),
        ))

  pub fits-ok : (qs : List Prefix) → Fits form last s → any? (inside? (prefix_in s)) qs ≡ true → lease_ok qs last (lease_fields_in form s) ≡ true
  unfolding lease_ok
  fits-ok qs f e =
      and-list-of (lease_rules qs last (lease_fields_in form s))
      (le-leb 1 (length_in s) f.short, (le-leb (length_in s) 30 f.long, (aligned-of (prefix_in s) f.aligned, (not-of (eqb (client_in s) 0) (ne_eqb (client_in s) 0 f.client), (lt-ltb last (expires_in s) f.later, (e, tt))))))

  -- A record that is read and is as a sound table has it fits.
  pub read_fits : (qs : List Prefix) (x : Lease) → lease_at_in form s ≡ some x → lease_ok qs last x ≡ true
      → Fits form last s × (x ≡ lease_fields_in form s) × (any? (inside? (prefix_in s)) qs ≡ true)
  unfolding lease_at_in lease_ok number16 number32
  read_fits qs x r o =
      let p = some_same (and (lease_tests_in form s)) (lease_fields_in form s) x r in
      let t = and-list-to (lease_tests_in form s) p.0 in
      let u = and-list-to (lease_rules qs last (lease_fields_in form s)) (ap (lease_ok qs last) p.1 ∙ o) in (
        record {
          start = omega (arith, eqb-true (number16 s 0) (lease_size_in form - 2) t.1.0, eqb-true (number16 s 2) (lease_kind form) t.1.1.0);
          short = leb-true 1 (length_in s) u.0;
          long = leb-true (length_in s) 30 u.1.0;
          low = leb-true 1 (state_byte_in s) t.1.1.1.0;
          high = leb-true (state_byte_in s) 2 t.1.1.1.1.0;
          flags = leb-true (flags_byte_in s) 3 t.1.1.1.1.1.0;
          client = eqb-false (client_in s) 0 (not-true (eqb (client_in s) 0) u.1.1.1.0);
          later = ltb-true last (expires_in s) u.1.1.1.1.0;
          aligned = aligned-to (prefix_in s) u.1.1.0;
          named = t.1.1.1.1.1.1.0;
        },
        sym p.1,
        u.1.1.1.1.1.0,
      )
