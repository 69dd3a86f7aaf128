-- Laws of list in place: the rows that refuse it, and the reply that it writes.
-- Assumes nothing.
use Prim.Native.Nat.{ℕ, ◌+◌, ◌*◌, ◌≤◌}
use native.Mathlib.Omega.{arith}
use mathlib.Core.Path.{◌≡◌, refl, sym, ap, ap₂, subst, ◌∙◌}
use mathlib.Core.Bool.{Bool, true, false, not, ◌&&◌}
use mathlib.Core.List.{List, [], ◌∷◌, map}
use mathlib.Core.Option.{Option}
use lib.ListN.{length, take, drop}
use lib.Dec.{ltb, eqb}
use borrow.Author.Tests.{ne_eqb, ltb-false}
use Rattle.lists.specs.Lists.{filter}
use Rattle.lists.specs.Put.{put}
use Rattle.lists.proofs.TakeLaws.{take_short, short_none, short-of}
use Rattle.lists.proofs.MapLaws.{all?-count}
use Rattle.lists.proofs.DropLaws.{drop-end}
use Rattle.lists.proofs.PutLaws.{put_front}
use Rattle.option.specs.Values.{SuboptionValue, information, refused}
use Rattle.option.specs.Writing.{option_head, information_head, entries_bytes, option_bytes}
use Rattle.table.specs.declared.Lease.{Lease}
use Rattle.table.specs.Table.{present}
use Rattle.image.specs.Image.{used_leases}
use Rattle.option.specs.Contents.{Request, requests, requests_in}
use Rattle.std.specs.Prelude.{Ok, Err}
use Rattle.option.specs.Reading.{read_option}
use Rattle.ledger.specs.declared.{Answer.Answer, Refusal.Refusal}
use Rattle.ledger.specs.Answers.{refusal_number, bad_place, answer_of}
use Rattle.ledger.specs.Ledger.{State, Call, Result, outcome, refusal, acceptance, accept, refusal_place, least_reply, bad_selection?, nothing?, for_list, listed, list_rows, list}
use Rattle.option_reply.specs.Reply.{most_entries, reply_bytes, entry_of}
use Rattle.option_reply.proofs.ReplyLaws.{entries_none, heads-last, reply-length}
use Rattle.option_scan.specs.declared.Contents.{Contents}
use Rattle.option_scan.specs.Scanned.{Columns, position_of}
use Rattle.image_check.specs.declared.ImageSummary.{ImageSummary}
use Rattle.call_spec.specs.ImageCalls.{Lent, table_in, state_in, list_image}
use Rattle.call_spec.specs.Books.{Book, lent_in, list_book}
use Rattle.call_spec.proofs.StoreLaws.{list-row-refuses, list-no-row}
use Rattle.call_rows.specs.Admission.{Admits, ReadOption}
use Rattle.call_rows.proofs.RowLaws.{ReadCall, RefusedBy, rows_with8, admitted-short, refused-admission, refused-option, refused-8, own-left, nothing-found, none_left}
use Rattle.call_rows.proofs.SettleLaws.{admitted-lent}
use Rattle.call_list.specs.declared.Page.{Page}
use Rattle.call_list.specs.InnerPage.{shown?, start_of, PageOf}
use Rattle.call_list.specs.InnerListing.{listed_by, eleven, Listing}
use Rattle.call_list.proofs.PlaceInList.{listed-from}

-- ROW 8: the test of the code, on counts, and the ledger's, on the pieces of an option.

abbrev listing : Request → Bool
listing r = r.i

some-requests : (qs : List Request) → not (nothing? qs) ≡ not (eqb (length qs) 0)
some-requests [] = refl
some-requests (q ∷ qs) = ap not (sym (ne_eqb (length (q ∷ qs)) 0 (λ e. omega (arith, e))))

last-true : (a b : Bool) → (a && (b && true)) ≡ (a && b)
last-true true true = refl
last-true true false = refl
last-true false b = refl

for-list : (qs : List Request) → for_list qs ≡ (not (eqb (length qs) 0) && eqb (length (filter listing qs)) (length qs))
for-list qs = rw (some-requests qs, all?-count listing qs) (last-true (not (eqb (length qs) 0)) (eqb (length (filter listing qs)) (length qs)))

abbrev wanted : List SuboptionValue → Bool
wanted subs = for_list (requests subs)

-- WHAT IT LEAVES where it is accepted.
abbrev settled_outcome : State → List Lease → List ℕ → Result State
settled_outcome s gs reply = accept s (option_bytes (information true (ltb most_entries (length gs)) (map entry_of (take most_entries gs)) ∷ [])) (length (take most_entries gs)) reply

-- The bytes that the ledger writes, and how many they are.
outcome-is : (s : State) (gs : List Lease) (reply : List ℕ) → least_reply ≤ length reply
    → settled_outcome s gs reply ≡ outcome (acceptance (7 * length (take most_entries gs) + 6) (length (take most_entries gs))) s (put reply 0 (reply_bytes true (ltb most_entries (length gs)) (take most_entries gs)))
unfolding reply_bytes
outcome-is s gs reply room =
    let w : List ℕ = reply_bytes true (ltb most_entries (length gs)) (take most_entries gs) in
    let size : length w ≡ 7 * length (take most_entries gs) + 6 = reply-length true (ltb most_entries (length gs)) (take most_entries gs) in
    let fits : length w ≤ length reply = omega (arith, size, take_short most_entries gs) in
    ap₂ (λ (k : ℕ) (l : List ℕ). outcome (acceptance k (length (take most_entries gs))) s l) size (sym (put_front w reply fits))

-- The page of no leases.
page-none : (now client : ℕ) (reply : List ℕ) (xs : List Lease) → length xs ≡ 0 → (from : ℕ) → PageOf (filter (shown? now client) (drop from xs)) reply reply (record { count = 0; more = false })
page-none now client reply [] e from =
    let none : drop from [] ≡ [] = drop-end {A = Lease} [] from (omega arith) in
    subst (λ (ys : List Lease). PageOf (filter (shown? now client) ys) reply reply (record { count = 0; more = false })) (sym none)
    (record { count = refl; more = refl; bytes = sym (entries_none [] reply refl) })
page-none now client reply (x ∷ xs) e from = absurd (omega arith)

-- THE CALL, UP TO ROW 8

module _ (h : Lent) (now : ℕ) (c : Call) where
  by_row : RefusedBy (rows_with8 false (ltb (length c.reply) least_reply) h now c wanted (eleven h now c)) h c (list_image h now c)
  unfolding list list_rows
  by_row = list-row-refuses h (list_rows (state_in h) now c) (refusal_place c.option) c.reply (settled_outcome (state_in h) (listed_by h now c) c.reply)

  pub list-refused : (e : Refusal) → Admits false (ltb (length c.reply) least_reply) h now c.client (Err e) → outcome (answer_of (Err e)) h c.reply ≡ list_image h now c
  list-refused = refused-admission false (ltb (length c.reply) least_reply) h now c wanted (eleven h now c) (list_image h now c) by_row

  module _ (summary : ImageSummary) (ad : Admits false (ltb (length c.reply) least_reply) h now c.client (Ok summary)) (selected : bad_selection? c.selection ≡ false) where
    pub list-unread : (e : Refusal) → read_option c.option ≡ refused (refusal_number e) (bad_place e) → outcome (answer_of (Err e)) h c.reply ≡ list_image h now c
    list-unread = refused-option false (ltb (length c.reply) least_reply) h now c wanted (eleven h now c) (list_image h now c) by_row summary ad selected

    module _ (m : Contents) (k : Columns) (r : ReadOption c.option m k) (b : Bool) (is : b ≡ (not (eqb m.requests 0) && eqb m.listing m.requests)) where
      s : ReadCall false (ltb (length c.reply) least_reply) h now c
      s = record { summary = summary; admits = ad; selected = selected; contents = m; columns = k; reads = r }

      asks-are : b ≡ for_list (requests_in c.option)
      asks-are = is ∙ rw (r.holds.requests, r.holds.listing) (sym (for-list (requests_in c.option)))

      pub list-wrong : b ≡ false → outcome (refusal 8 0) h c.reply ≡ list_image h now c
      list-wrong w = refused-8 false (ltb (length c.reply) least_reply) h now c wanted (eleven h now c) (list_image h now c) by_row s (sym asks-are ∙ w)

      -- Every row before 11 has passed.
      pub list-passed : b ≡ true → Listing h now c summary m
      unfolding list_rows
      list-passed w = record {
        admitted = ad.1;
        room = ltb-false (length c.reply) least_reply (admitted-short false (ltb (length c.reply) least_reply) h now c.client [] summary ad);
        left-rows = own-left false (ltb (length c.reply) least_reply) h now c wanted (eleven h now c) (list_image h now c) by_row s (sym asks-are ∙ w);
        position-is = r.holds.position;
      }

-- ROW 11, AND THE PAGE

module _ (h : Lent) (now : ℕ) (c : Call) (summary : ImageSummary) (m : Contents) (listing-is : Listing h now c summary m) where
  -- The page, from the first lease above the position on.
  module _ (from : ℕ) (placed : from ≡ start_of (position_of m) (used_leases (table_in h))) (page : Page) (reply₁ : List ℕ)
      (p : PageOf (filter (shown? now c.client) (drop from (used_leases (table_in h)))) c.reply reply₁ page) where
    gs : List Lease
    gs = listed_by h now c

    -- Whichever row refuses it.
    by-row-11 : RefusedBy (list_rows (state_in h) now c) h c (list_image h now c)
    unfolding list
    by-row-11 = list-row-refuses h (list_rows (state_in h) now c) (refusal_place c.option) c.reply (settled_outcome (state_in h) (listed_by h now c) c.reply)

    shown-are : filter (shown? now c.client) (drop from (used_leases (table_in h))) ≡ gs
    unfolding gs
    shown-are =
        ap (λ (k : ℕ). filter (shown? now c.client) (drop k (used_leases (table_in h)))) placed
        ∙ listed-from now c.client (position_of m) (used_leases (table_in h)) listing-is.admitted.ascending
        ∙ ap (listed c.client (position_of m)) (sym listing-is.admitted.present-used)
        ∙ ap (λ (q : Option ℕ). listed c.client q (present now (table_in h).leases)) listing-is.position-is

    count-is : page.count ≡ length (take most_entries gs)
    count-is = p.count ∙ ap (λ (xs : List Lease). length (take most_entries xs)) shown-are

    entries-are : reply₁ ≡ put c.reply 6 (entries_bytes (map entry_of (take most_entries gs)))
    entries-are = p.bytes ∙ ap (λ (xs : List Lease). put c.reply 6 (entries_bytes (map entry_of (take most_entries xs)))) shown-are

    -- Row 11: no lease to show, so nothing was written.
    pub list-nothing : page.count ≡ 0 → outcome (refusal 11 0) h reply₁ ≡ list_image h now c
    unfolding gs
    list-nothing k =
        let empty : length (take most_entries gs) ≡ 0 = sym count-is ∙ k in
        ap (λ (l : List ℕ). outcome (refusal 11 0) h l) (entries-are ∙ entries_none (take most_entries gs) c.reply empty)
        ∙ nothing-found h c (list_rows (state_in h) now c) (list_image h now c) by-row-11 gs listing-is.left-rows (short_none most_entries gs (omega arith) empty)

    -- Accepted.
    pub list-found : (page.count ≡ 0 → ⊥) → (reply₂ : List ℕ) (n : ℕ) → n ≡ 7 * page.count + 6
        → reply₂ ≡ put (put reply₁ 0 (option_head (7 * page.count + 4))) 3 (information_head (7 * page.count + 1) true page.more)
        → outcome (acceptance n page.count) h reply₂ ≡ list_image h now c
    unfolding gs list
    list-found k reply₂ n size e₂ =
        let more-is : page.more ≡ ltb most_entries (length gs) = p.more ∙ ap (λ (xs : List Lease). ltb most_entries (length xs)) shown-are in
        let whole : reply₂ ≡ put c.reply 0 (reply_bytes true (ltb most_entries (length gs)) (take most_entries gs)) =
        heads-last true page.more (take most_entries gs) page.count count-is c.reply reply₁ reply₂ entries-are e₂
        ∙ ap (λ (s : Bool). put c.reply 0 (reply_bytes true s (take most_entries gs))) more-is in
        let n-is : n ≡ 7 * length (take most_entries gs) + 6 = omega (arith, size, count-is) in
        let left : Result State = outcome (acceptance n page.count) (state_in h) reply₂ in
        let left_is : left ≡ settled_outcome (state_in h) gs c.reply =
        ap (λ (l : List ℕ). outcome (acceptance n page.count) (state_in h) l) whole
        ∙ ap₂ (λ (x y : ℕ). outcome (acceptance x y) (state_in h) (put c.reply 0 (reply_bytes true (ltb most_entries (length gs)) (take most_entries gs)))) n-is count-is
        ∙ sym (outcome-is (state_in h) gs c.reply listing-is.room) in
        ap (λ (w : Result State). outcome w.answer h w.reply) left_is
        ∙ list-no-row h (list_rows (state_in h) now c) (refusal_place c.option) c.reply (settled_outcome (state_in h) gs c.reply)
        (none_left h c (list_rows (state_in h) now c) (list_image h now c) by-row-11 gs listing-is.left-rows (λ w. k (count-is ∙ short-of most_entries gs w)))

  -- Row 11 of a table without leases.
  pub list-empty : summary.leases ≡ 0 → outcome (refusal 11 0) h c.reply ≡ list_image h now c
  list-empty k =
      let xs : List Lease = used_leases (table_in h) in
      list-nothing (start_of (position_of m) xs) refl (record { count = 0; more = false }) c.reply (page-none now c.client c.reply xs (sym listing-is.admitted.leases ∙ k) (start_of (position_of m) xs)) refl

-- ON AN OPEN BOOK, which a list leaves as it was.

module _ (b : Book) (now : ℕ) (c : Call) where
  pub list-book : (a : Answer) (reply : List ℕ) → outcome a (lent_in b) reply ≡ list_image (lent_in b) now c → outcome a b reply ≡ list_book b now c
  list-book a reply is = ap (λ (w : Result Lent). outcome w.answer b w.reply) is

  module _ (summary : ImageSummary) (m : Contents) (passed : Listing (lent_in b) now c summary m) where
    same : lent_in b ≡ b.lent
    same = admitted-lent false b now c.client summary passed.admitted

    pub listing-lent : Listing b.lent now c summary m
    listing-lent = subst (λ (h : Lent). Listing h now c summary m) same passed

    pub listed-book : (a : Answer) (reply : List ℕ) → outcome a b.lent reply ≡ list_image b.lent now c → outcome a b reply ≡ list_book b now c
    listed-book a reply is = list-book a reply (subst (λ (h : Lent). outcome a h reply ≡ list_image h now c) (sym same) is)
