-- What a reply reads back as: the entries of the leases that it tells of; and that a reply fits any buffer that row 1 lets pass.
-- Assumes nothing.
use Prim.Native.Nat.{ℕ, ◌+◌, ◌*◌}
use mathlib.Core.Path.{◌≡◌, refl, ap, ap₂, ◌∙◌}
use mathlib.Core.Bool.{Bool, true, false, cond}
use mathlib.Core.List.{List, [], ◌∷◌, ◌++◌, map}
use native.Mathlib.Omega.{arith}
use lib.ListN.{length, drop, get_or, length-map}
use lib.ListN.{take as up_to}
use lib.Seq.{take-append_seam, drop-append_seam}
use lib.Dec.{eqb}
use borrow.Author.Tests.{le-leb}
use Rattle.lists.specs.Lists.{All}
use Rattle.lists.proofs.Tests.{and-of}
use Rattle.lists.proofs.ListLaws.{all_map, all-image}
use Rattle.prefix.specs.declared.Prefix.{Prefix}
use Rattle.prefix.specs.Prefixes.{prefix}
use Rattle.prefix.proofs.PrefixLaws.{aligned-of}
use Rattle.option.specs.Values.{Entry, SuboptionValue, information, Outcome}
use Rattle.option.specs.Rules.{entry_fields?}
use Rattle.option.specs.Reading.{option?, read_option}
use Rattle.option.specs.Writing.{option_head, option_bytes}
use Rattle.option.specs.Writer.{entry_writable?, writable?}
use Rattle.option.proofs.Replies.{Bare, ask-reply-length, information-reply-length}
use Rattle.option.proofs.WrittenReadsBack.{bytes-read-back}
use Rattle.table.specs.declared.Lease.{Lease}
use Rattle.table.proofs.TableLaws.{Good}
use Rattle.option.specs.Contents.{suboptions, entries, entries_in}
use Rattle.option_reply.specs.Reply.{entry_of}
use Rattle.ledger.specs.Ledger.{refuse, information_for}
use Rattle.ledger.specs.Demand3.{option220, reply_entries}

-- A good lease is a block, so its entry can be written.
pub entry-writable : (ps : List Prefix) (now : ℕ) (x : Lease) → Good ps now x → entry_writable? (entry_of x) ≡ true
unfolding entry_writable? entry_fields?
entry-writable ps now x g = rw (le-leb 1 x.length g.short, le-leb x.length 30 g.long, aligned-of (prefix x.network x.length) g.aligned)

informations-writable : (ps : List Prefix) (now : ℕ) (xs : List Lease) → All (Good ps now) xs → All (λ v. writable? v ≡ true) (map information_for xs)
unfolding writable?
informations-writable ps now xs a =
    all-image information_for (λ v. writable? v ≡ true) xs (all_map (λ x (g : Good ps now x). and-of (entry_writable? (entry_of x)) true (entry-writable ps now x g) refl) xs a)

entries-of : (xs : List Lease) → entries (map information_for xs) ≡ map entry_of xs
entries-of [] = refl
entries-of (x ∷ xs) = ap (λ (l : List Entry). entry_of x ∷ l) (entries-of xs)

-- OPTION 220 OF A REPLY is what was written as it, whatever follows it; and what follows it.

len-byte : (subs : List SuboptionValue) (back : List ℕ) → get_or (option_bytes subs ++ back) 1 0 + 2 ≡ length (option_bytes subs)
unfolding option_bytes option_head
len-byte subs back = omega arith

option220-is : (subs : List SuboptionValue) (back : List ℕ) → option220 (option_bytes subs ++ back) ≡ option_bytes subs
option220-is subs back = ap (λ (n : ℕ). up_to n (option_bytes subs ++ back)) (len-byte subs back) ∙ take-append_seam (option_bytes subs) back

pub reply-220 : (subs : List SuboptionValue) (back rest : List ℕ) → option220 (up_to (length (option_bytes subs ++ back)) ((option_bytes subs ++ back) ++ rest)) ≡ option_bytes subs
reply-220 subs back rest = ap option220 (take-append_seam (option_bytes subs ++ back) rest) ∙ option220-is subs back

pub reply-follows : (subs : List SuboptionValue) (back rest : List ℕ)
    → let w = up_to (length (option_bytes subs ++ back)) ((option_bytes subs ++ back) ++ rest) in drop (length (option220 w)) w ≡ back
reply-follows subs back rest =
    ap₂ (λ (l w : List ℕ). drop (length l) w) (reply-220 subs back rest) (take-append_seam (option_bytes subs ++ back) rest) ∙ drop-append_seam (option_bytes subs) back

-- The bytes that an ask writes read back as its entries.
pub reads-back : (ps : List Prefix) (now : ℕ) (x : Lease) (xs : List Lease) (back rest : List ℕ) → All (Good ps now) (x ∷ xs)
    → let w = option_bytes (map information_for (x ∷ xs)) ++ back in entries_in (option220 (up_to (length w) (w ++ rest))) ≡ map entry_of (x ∷ xs)
reads-back ps now x xs back rest a =
    ap entries_in (reply-220 (map information_for (x ∷ xs)) back rest)
    ∙ ap (λ (o : Outcome). entries (suboptions o)) (bytes-read-back (map information_for (x ∷ xs)) (omega arith) (informations-writable ps now (x ∷ xs) a))
    ∙ entries-of (x ∷ xs)

-- A refusal has no entries.
pub reads_none : {S : Type 0} (n place : ℕ) (s : S) (reply : List ℕ) → reply_entries (refuse n place s reply) ≡ []
unfolding read_option option?
reads_none n place s reply = go (eqb n 0)
  where
    go : (b : Bool) → cond b (entries_in (up_to 0 reply)) [] ≡ []
    go true = refl
    go false = refl

-- THE REPLIES FIT: 25 granted requests need 253 bytes, 35 entries in one Information need 251.

pub bare : (xs : List Lease) → All Bare (map entry_of xs)
bare [] = tt
bare (x ∷ xs) = (refl, bare xs)

infos : (xs : List Lease) → map information_for xs ≡ map (λ e. information false false (e ∷ [])) (map entry_of xs)
infos [] = refl
infos (x ∷ xs) = ap (λ (l : List SuboptionValue). information_for x ∷ l) (infos xs)

pub ask-bytes : (xs : List Lease) → length (option_bytes (map information_for xs)) ≡ 3 + 10 * length xs
ask-bytes xs = ap (λ (l : List SuboptionValue). length (option_bytes l)) (infos xs) ∙ ask-reply-length (map entry_of xs) (bare xs) ∙ ap (λ (n : ℕ). 3 + 10 * n) (length-map xs entry_of)

pub information-bytes : (c s : Bool) (xs : List Lease) → length (option_bytes (information c s (map entry_of xs) ∷ [])) ≡ 6 + 7 * length xs
information-bytes c s xs = information-reply-length c s (map entry_of xs) (bare xs) ∙ ap (λ (n : ℕ). 6 + 7 * n) (length-map xs entry_of)
