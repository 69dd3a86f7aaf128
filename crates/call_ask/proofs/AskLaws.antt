-- Laws of ask as a call on an open book: the rows up to 19, what is known where they have passed, and what it leaves.
-- Assumes nothing.
use Prim.Native.Nat.{ℕ, suc, ◌+◌, ◌≤◌, ◌<◌}
use native.Mathlib.Omega.{arith}
use mathlib.Core.Path.{◌≡◌, refl, sym, ap, ap₂, subst, ◌∙◌}
use mathlib.Core.Logic.{⊎_elim}
use mathlib.Core.Bool.{Bool, true, false, not, cond, ◌&&◌}
use mathlib.Core.List.{List, [], ◌∷◌, ◌++◌, map}
use mathlib.Core.Option.{Option, none, some}
use lib.ListN.{length, get_or, take, drop, length-drop}
use lib.Seq.{length-take-le}
use lib.Dec.{leb, ltb, eqb}
use borrow.Author.Tests.{leb-true, lt-ltb, le-ltb, ltb-false, eqb-true, ne_eqb, not-false}
use Rattle.std.specs.Prelude.{Option as Maybe, Result as Res, Ok, Err}
use Rattle.lists.specs.Lists.{all?, and, filter, cat_maybes}
use Rattle.lists.proofs.Tests.{bool_cases, and-to, and-list-to, cond-true, cond-false}
use Rattle.names.specs.declared.Name.{Name}
use Rattle.names.specs.Names.{longest_name, name_of}
use Rattle.table.specs.Table.{pools_of}
use Rattle.option.specs.Values.{longest_option, most_requests, SuboptionValue, refused}
use Rattle.option.specs.Reading.{read_option}
use Rattle.option.specs.Contents.{Request, requests, requests_in, first_name_in}
use Rattle.option.specs.Selection.{selection_size, selection?}
use Rattle.option.specs.Writing.{option_bytes}
use Rattle.ledger.specs.declared.{Accepted.Accepted, Answer.Answer, Refusal.Refusal}
use Rattle.ledger.specs.declared.Refusal.TheVariants.{WrongSuboptions, NameTooLong, NoSuchPool}
use Rattle.ledger.specs.Answers.{refusal_number, bad_place, answer_of}
use Rattle.ledger.specs.Ledger.{State, left, Call, Result, outcome, refusal, nothing?, Row, first_of, accept, refusal_place, least_reply, least_for, bad_selection?, returned, for_ask, narrowed, gives_in, leases_in, information_for, name_rows, ground_rows, grant_rows, ask_rows, ask}
use Rattle.ledger.proofs.GroundLaws.{returned-short}
use Rattle.ledger.proofs.RefusalLaws.{number-some}
use Rattle.ledger.proofs.SoundKept.{ask-sound}
use Rattle.option_scan.specs.declared.Contents.{Contents}
use Rattle.option_scan.specs.Scanned.{Columns, Long}
use Rattle.image_check.specs.declared.ImageSummary.{ImageSummary}
use Rattle.counts.specs.Counts.{counts_of}
use Rattle.call_spec.specs.ImageCalls.{Lent, lent, table_in, state_in, carried_if, ask_image}
use Rattle.call_spec.specs.Books.{Book, lent_in, ask_book}
use Rattle.call_spec.proofs.BookLaws.{refuses-book}
use Rattle.call_spec.proofs.OnImages.{follows-all}
use Rattle.call_spec.proofs.PoolsKept.{ask-pools}
use Rattle.call_spec.proofs.StoreLaws.{row-refuses}
use Rattle.call_rows.specs.Admission.{selection_read, ReadOption, Admits, Admitted, LeftIfAccepted}
use Rattle.call_rows.proofs.RowLaws.{ReadCall, RefusedBy, rows_with8, admitted-short, refused-admission, refused-selection, refused-option, refused-8, own-left, no-ground, ground-left}
use Rattle.call_rows.proofs.SelectionLaws.{selection-bad, selection-good}
use Rattle.call_rows.proofs.SettleLaws.{admitted-lent, admitted-book, admitted-counts, countable, settles}
use Rattle.call_ground.specs.declared.Ground.{Ground}
use Rattle.call_ground.specs.Ground.{OfAdmitted, Grounds, returning, MayReturn}
use Rattle.call_ground.proofs.ReturnLaws.{returning-refused}
use Rattle.ask_commit.specs.declared.Site.{Site}
use Rattle.ask_commit.specs.Asking.{Ready, Asking}
use Rattle.call_ask.proofs.CountLaws.{ask-kept}

-- No request has i exactly where none of them is counted.
none-listing : (rs : List Request) → all? (λ r. not r.i) rs ≡ eqb (length (filter (λ r. r.i) rs)) 0
none-listing [] = refl
none-listing (r ∷ rs) =
    ⊎_elim
    (λ (e : r.i ≡ true). rw e (sym (ne_eqb (suc (length (filter (λ q. q.i) rs))) 0 (λ z. omega arith))))
    (λ (e : r.i ≡ false). rw e (none-listing rs))
    (bool_cases r.i)

-- Row 8, of what is counted.
abbrev asks? : Contents → Bool
asks? m = and (leb 1 m.requests ∷ leb m.requests most_requests ∷ eqb m.listing 0 ∷ [])

pub and-few : (n l : ℕ) (b : Bool) → b ≡ and (leb 1 n ∷ leb n most_requests ∷ eqb l 0 ∷ []) → b ≡ true → n ≤ most_requests
and-few n l b is w = leb-true n most_requests (and-list-to (leb 1 n ∷ leb n most_requests ∷ eqb l 0 ∷ []) (sym is ∙ w)).1.0

-- Row 8, of the suboptions.
abbrev wanted : List SuboptionValue → Bool
wanted subs = for_ask (requests subs)

-- What is left where no row applies.
abbrev accepted : Lent → ℕ → Call → Result State
accepted h now c =
    let granted = cat_maybes (gives_in (table_in h) now c) in
    accept (left (state_in h) now (leases_in (table_in h) now c)) (option_bytes (map information_for granted) ++ returned c.selection) (length granted) c.reply

-- The rows after row 8, and after row 17.
abbrev beyond : Lent → ℕ → Call → List Row
beyond h now c = ground_rows (table_in h) c ++ grant_rows (state_in h) now c

abbrev later : Lent → ℕ → Call → List Row
later h now c = name_rows c ++ beyond h now c

-- OPTION 118

-- Room for the reply, and for it: row 1 has passed.
enough : (o : Option (List ℕ)) → bad_selection? o ≡ false → least_reply + length (returned o) ≤ least_for o
enough none e = omega arith
enough (some s) e = omega (arith, returned-short (some s) e)

-- It has its six bytes.
selection-size : (selected : Bool) (s : List ℕ) → bad_selection? (carried_if selected s) ≡ false → selected ≡ true → length s ≡ selection_size
unfolding selection?
selection-size selected s good e =
    let read = not-false (selection? s) (sym (ap (λ (b : Bool). bad_selection? (carried_if b s)) e) ∙ good) in
    let a = (and-to (leb 2 (length s)) _ read).1 in
    let b = (and-to (eqb (get_or s 0 0) 118) _ a).1 in
    let d = and-to (eqb (get_or s 1 0 + 2) (length s)) (eqb (get_or s 1 0) 4) b in
    omega (arith, eqb-true (get_or s 1 0 + 2) (length s) d.0, eqb-true (get_or s 1 0) 4 d.1)

pub may-return : (selected : Bool) (s : List ℕ) (address : Maybe ℕ) → Ok address ≡ selection_read (carried_if selected s) → (a : Answer) (reply after : List ℕ)
    → least_reply + length (returned (carried_if selected s)) ≤ length reply → length after ≡ length reply → a.bytes ≤ longest_option → MayReturn a selected s after
may-return selected s address chosen a reply after room same few z e =
    let size = selection-size selected s (selection-good (carried_if selected s) address chosen) e in
    let whole : length (returned (carried_if selected s)) ≡ length s = ap (λ (b : Bool). length (returned (carried_if b s))) e in
    (size, omega (arith, size, whole, room, same, few), few)

-- A call that has it in its reply is accepted or refused as without it.
record Returned (o : Option (List ℕ)) (res : Res Accepted Refusal) (g : Lent) (reply : List ℕ) : Type 0 where
  pub answer : Res Accepted Refusal
  pub after : List ℕ
  pub is : outcome (answer_of answer) g after ≡ returning o (outcome (answer_of res) g reply)
  pub same : (answer_of res).number ≡ (answer_of answer).number

returned_as : (o : Option (List ℕ)) (res : Res Accepted Refusal) (g : Lent) (reply : List ℕ) → Returned o res g reply
returned_as none res g reply = record { answer = res; after = reply; is = refl; same = refl }
returned_as (some s) (Ok a) g reply = record { answer = Ok (record { bytes = a.bytes + length s; count = a.count }); after = _; is = refl; same = refl }
returned_as (some s) (Err e) g reply = record { answer = Err e; after = reply; is = sym (returning-refused (some s) (outcome (answer_of (Err e)) g reply) (number-some e)); same = refl }

-- Its number is the same.
pub number-kept : (o : Option (List ℕ)) (res r : Res Accepted Refusal) (g : Lent) (reply after : List ℕ) → outcome (answer_of r) g after ≡ returning o (outcome (answer_of res) g reply)
    → (answer_of res).number ≡ (answer_of r).number
number-kept o res r g reply after is = let w = returned_as o res g reply in w.same ∙ ap (λ (x : Result Lent). x.answer.number) (w.is ∙ sym is)

module _ (b : Book) (now : ℕ) (c : Call) (short : Bool) (short-is : short ≡ ltb (length c.reply) (least_for c.selection)) where
  abbrev h : Lent
  h = lent_in b

  by_row : RefusedBy (rows_with8 true short h now c wanted (later h now c)) h c (ask_image h now c)
  unfolding ask ask_rows
  by_row =
      subst (λ (w : Bool). RefusedBy (rows_with8 true w h now c wanted (later h now c)) h c (ask_image h now c)) (sym short-is)
      (row-refuses h (ask_rows (state_in h) now c) (refusal_place c.option) c.reply (accepted h now c))

  -- A refused call leaves the book as it is.
  stays : (e : Refusal) → outcome (answer_of (Err e)) h c.reply ≡ ask_image h now c → outcome (answer_of (Err e)) b c.reply ≡ ask_book b now c
  stays e is = refuses-book b (ask_image h now c) (answer_of (Err e)) h c.reply is (number-some e)

  pub ask-refused : (e : Refusal) → Admits true short h now c.client (Err e) → outcome (answer_of (Err e)) b c.reply ≡ ask_book b now c
  ask-refused e ad = stays e (refused-admission true short h now c wanted (later h now c) (ask_image h now c) by_row e ad)

  module _ (summary : ImageSummary) (ad : Admits true short h now c.client (Ok summary)) where
    -- Row 6 of option 118.
    pub ask-unselected : (e : Refusal) → Err e ≡ selection_read c.selection → outcome (answer_of (Err e)) b c.reply ≡ ask_book b now c
    ask-unselected e is =
        let bad = selection-bad c.selection e is in
        stays e
        (ap (λ (r : Refusal). outcome (answer_of (Err r)) h c.reply) bad.0
        ∙ refused-selection true short h now c wanted (later h now c) (ask_image h now c) by_row summary ad bad.1)

    -- The book is what is lent.
    same : h ≡ b.lent
    same = admitted-lent true b now c.client summary ad.1

    pub ask-admitted : Admitted true b.lent now c.client summary
    ask-admitted = admitted-book true b now c.client summary ad.1

    pub of-admitted : OfAdmitted b.lent.image summary
    of-admitted = record { lent = b.lent; time = now; client = c.client; same = refl; admitted = ask-admitted }

    -- WHAT IS GRANTED is counted, and settled.

    module _ (res : Res Accepted Refusal) (g : Lent) (reply : List ℕ) where
      pub ask-countable : returning c.selection (outcome (answer_of res) g reply) ≡ ask_image b.lent now c → LeftIfAccepted (answer_of res).number (lent g.image g.bytes []) summary.pools
      ask-countable is z =
          let r = returned_as c.selection res g reply in
          countable b.lent (ask (state_in b.lent) now c) (follows-all.asks b.lent now c) (ask-sound (state_in b.lent) now c) (ask-pools (state_in b.lent) now c)
          (answer_of r.answer) g r.after (r.is ∙ is) summary.pools ask-admitted.pools (sym r.same ∙ z)

      module _ (is : outcome (answer_of res) g reply ≡ ask_image b.lent now c) (moved : Bool) (moved-is : moved ≡ not (eqb summary.expired 0 && eqb b.lent.bytes g.bytes)) where
        unmoved-kept : (answer_of res).number ≡ 0 → moved ≡ false → counts_of (table_in g) ≡ b.counts
        unmoved-kept z stay = ask-kept b.lent now c summary ask-admitted (answer_of res) g reply is z moved moved-is stay ∙ sym (admitted-counts true b now c.client summary ad.1)

        pub ask-settles : (counts : List (List ℕ)) → counts ≡ cond (eqb (answer_of res).number 0 && moved) (counts_of (table_in (lent g.image g.bytes []))) b.counts
            → outcome (answer_of res) (record { lent = g; counts = counts }) reply ≡ ask_book b now c
        ask-settles counts left-are =
            settles b same (ask (state_in b.lent) now c) (λ (w : Lent). ask_image w now c) (follows-all.asks b.lent now c) (answer_of res) g reply is moved counts left-are unmoved-kept

    module _ (address : Maybe ℕ) (chosen : Ok address ≡ selection_read c.selection) where
      selected : bad_selection? c.selection ≡ false
      selected = selection-good c.selection address chosen

      pub ask-room : least_reply + length (returned c.selection) ≤ length c.reply
      ask-room =
          let roomy = ltb-false (length c.reply) (least_for c.selection) (sym short-is ∙ admitted-short true short h now c.client [] summary ad) in
          omega (arith, roomy, enough c.selection selected)

      -- Rows 6, 7 and 16.
      pub ask-unread : (e : Refusal) → read_option c.option ≡ refused (refusal_number e) (bad_place e) → outcome (answer_of (Err e)) b c.reply ≡ ask_book b now c
      ask-unread e is = stays e (refused-option true short h now c wanted (later h now c) (ask_image h now c) by_row summary ad selected e is)

      module _ (m : Contents) (k : Columns) (r : ReadOption c.option m k) (good : Bool) (is : good ≡ asks? m) where
        s : ReadCall true short h now c
        s = record { summary = summary; admits = ad; selected = selected; contents = m; columns = k; reads = r }

        asks-are : good ≡ for_ask (requests_in c.option)
        asks-are =
            let rs : List Request = requests_in c.option in
            is
            ∙ ap₂ (λ (n l : ℕ). and (leb 1 n ∷ leb n most_requests ∷ eqb l 0 ∷ [])) r.holds.requests r.holds.listing
            ∙ ap (λ (t : Bool). and (leb 1 (length rs) ∷ leb (length rs) most_requests ∷ t ∷ [])) (sym (none-listing rs))

        pub ask-wrong : good ≡ false → outcome (refusal 8 0) b c.reply ≡ ask_book b now c
        ask-wrong w = stays WrongSuboptions (refused-8 true short h now c wanted (later h now c) (ask_image h now c) by_row s (sym asks-are ∙ w))

        module _ (w : good ≡ true) where
          pub ask-few : m.requests ≤ most_requests
          ask-few = and-few m.requests m.listing good is w

          rows_left : first_of (rows_with8 true short h now c wanted (later h now c)) ≡ first_of (later h now c)
          rows_left = own-left true short h now c wanted (later h now c) (ask_image h now c) by_row s (sym asks-are ∙ w)

          name-many : length (first_name_in c.option) ≡ m.name_bytes
          name-many =
              sym (ap length r.named.part)
              ∙ length-take-le m.name_bytes (drop m.name c.option) (omega (arith, r.named.within, length-drop m.name c.option))

          -- Row 17: the first name stands where it was found.
          pub ask-long-name : longest_name < m.name_bytes → outcome (refusal 17 0) b c.reply ≡ ask_book b now c
          ask-long-name long =
              stays NameTooLong
              (by_row 17 (λ z. omega arith)
              (rows_left ∙ cond-true (ltb longest_name (length (first_name_in c.option))) (some 17) (first_of (beyond h now c)) (lt-ltb longest_name (length (first_name_in c.option)) (omega (arith, name-many)))))

          module _ (brief : m.name_bytes ≤ longest_name) where
            ground-rows : first_of (rows_with8 true short h now c wanted (later h now c)) ≡ first_of (beyond h now c)
            ground-rows =
                rows_left ∙ cond-false (ltb longest_name (length (first_name_in c.option))) (some 17) (first_of (beyond h now c)) (le-ltb longest_name (length (first_name_in c.option)) (omega (arith, name-many)))

            asked : first_of (ask_rows (state_in h) now c) ≡ first_of (rows_with8 true short h now c wanted (later h now c))
            unfolding ask_rows
            asked = ap (λ (t : Bool). first_of (rows_with8 true t h now c wanted (later h now c))) (sym short-is)

            -- Row 19.
            pub ask-groundless : nothing? (pools_of (narrowed (table_in b.lent) c)) ≡ true → outcome (refusal 19 0) b c.reply ≡ ask_book b now c
            ask-groundless none-there =
                stays NoSuchPool
                (no-ground h c (rows_with8 true short h now c wanted (later h now c)) (ask_image h now c) by_row (grant_rows (state_in h) now c) ground-rows
                (ap (λ (w : Lent). nothing? (pools_of (narrowed (table_in w) c))) same ∙ none-there))

            module _ (g : Ground) (grounds : Grounds b.lent c summary g) where
              abbrev site : Site
              site = record { summary = summary; area = g }

              -- Every row before 9 has passed.
              pub ask-ready : Long k → Ready b.lent now c.client c.reply site (take m.requests k.asked_lengths) (take m.requests k.asked_h)
              ask-ready long =
                  let many = length-take-le m.requests k.asked_lengths (omega (arith, ask-few, long.asked_lengths)) in
                  record {
                    admitted = ask-admitted;
                    within = (grounds.few-pools, grounds.few-leases);
                    room = omega (arith, ask-room);
                    few = omega (arith, many, ask-few);
                    same = length-take-le m.requests k.asked_h (omega (arith, ask-few, long.asked_h)) ∙ sym many;
                  }

              left-rows : first_of (ask_rows (state_in h) now c) ≡ first_of (grant_rows (state_in h) now c)
              left-rows =
                  asked
                  ∙ ground-left h c (rows_with8 true short h now c wanted (later h now c)) (ask_image h now c) by_row (grant_rows (state_in h) now c) ground-rows
                  (ap (λ (w : Lent). nothing? (pools_of (narrowed (table_in w) c))) same ∙ grounds.row)

              pub ask-asking : (name : Name) → name ≡ name_of (take m.name_bytes (drop m.name c.option))
                  → Asking b.lent now name c site (take m.requests k.asked_lengths) (take m.requests k.asked_h)
              ask-asking name e = record {
                left-rows = subst (λ (w : Lent). first_of (ask_rows (state_in w) now c) ≡ first_of (grant_rows (state_in w) now c)) same left-rows;
                grounds = grounds;
                named = e ∙ ap name_of r.named.part;
                lengths = r.holds.asked_lengths ask-few;
                flags = r.holds.asked_h ask-few;
                room = ask-room;
              }
