-- Laws of the end of ask in place: what its requests get again and are offered, rows 9 and 10, what it leaves once a request gets something, and option 118
-- after its reply.
-- Assumes nothing.
use Prim.Native.Nat.{ℕ, suc, ◌+◌, ◌-◌, ◌*◌, ◌≤◌, ◌<◌}
use native.Mathlib.Nat.{zero-add}
use native.Mathlib.Omega.{arith}
use mathlib.Core.Path.{◌≡◌, refl, sym, ap, ap₂, subst, ◌∙◌}
use mathlib.Core.Logic.{⊎_elim}
use mathlib.Core.Bool.{true, false}
use mathlib.Core.List.{List, [], ◌∷◌, ◌++◌, map}
use mathlib.Core.Option.{Option, some}
use lib.Dec.{eqb}
use lib.ListN.{length, take, drop, replicate, length-append, length-map, length-replicate}
use borrow.Author.Tests.{le-leb, lt-leb, eqb-false}
use Rattle.lists.specs.Lists.{All, concat_map, cat_maybes}
use Rattle.lists.specs.Put.{put}
use Rattle.lists.proofs.Tests.{bool_cases}
use Rattle.lists.proofs.ListLaws.{all_map}
use Rattle.lists.proofs.PartLaws.{cat_maybes-few}
use Rattle.lists.proofs.PutLaws.{put-fits}
use Rattle.option.specs.Values.{SuboptionValue}
use Rattle.option.specs.Contents.{Request, requests_in}
use Rattle.option.specs.Writing.{option_bytes}
use Rattle.names.specs.declared.Name.{Name}
use Rattle.table.specs.declared.{Lease.Lease, LeaseTable.LeaseTable}
use Rattle.table.specs.Table.{lease_slots, pools_of, empty?, present, store}
use Rattle.table.proofs.TableLaws.{sound-fewer, sound-fine, fine-long, long-not-empty}
use Rattle.image.specs.Image.{le32, lease_size, lease_record, used_leases}
use Rattle.image.specs.Reading.{last_at}
use Rattle.image_check.specs.declared.ImageSummary.{ImageSummary}
use Rattle.image_records.specs.Records.{Records, Ascending}
use Rattle.image_records.proofs.PutForms.{put-over}
use Rattle.image_records.proofs.RecordLaws.{length-leases, put-records}
use Rattle.image_records.proofs.SoundLaws.{ascending-prefixes}
use Rattle.figures.specs.Figures.{followed}
use Rattle.image_figures.specs.Sheets.{sheet_of}
use Rattle.ledger.specs.Ledger.{State, left, Call, call_with, Result, outcome, refusal, acceptance, accept, first_of, refusal_place, nothing?, narrowed, usable_leases, returned, ask_name, hold_time, offers, add_all, again, rest_of, held_again, in_turn, ask_held, ask_offers, ask_gives, ask_leases, information_for, grant_rows, ask_rows, ask}
use Rattle.ledger.proofs.AgainLaws.{again-length, held-fine, held-length, rest_all, rest-fills, turn-length, turn-count, rest-offers}
use Rattle.ledger.proofs.GroundLaws.{Ground, area, narrowed-default}
use Rattle.ledger.proofs.OfferLaws as offer-laws
use Rattle.ledger.proofs.RowLaws.{nothing-none, nothing-some}
use Rattle.ledger.proofs.ReadLaws.{requests-short}
use Rattle.ledger.proofs.ReplyLaws.{ask-bytes}
use Rattle.ask_again.specs.Places.{no_place, given_in, others_in, Asks}
use Rattle.ask_serve.specs.Granting.{offers_in, leases_in, rest_offers, Granted}
use Rattle.ask_serve.proofs.ColumnLaws.{offers-many}
use Rattle.ask_serve.proofs.RestLaws.{rest-added}
use Rattle.ask_insert.specs.Growing.{Standing, grown, Fresh, Grown}
use Rattle.ask_insert.proofs.AddLaws.{added-length}
use Rattle.call_spec.specs.ImageCalls.{Lent, lent, table_in, state_in, ask_image}
use Rattle.call_spec.proofs.StoreLaws.{row-refuses}
use Rattle.call_rows.specs.Admission.{leases_from}
use Rattle.call_rows.specs.Admission.{left as left_in}
use Rattle.call_rows.proofs.RowLaws.{accepts}
use Rattle.call_rows.proofs.FinishLaws.{left-in-place}
use Rattle.call_ground.specs.Ground.{returning}
use Rattle.call_ground.proofs.GroundsLaws.{grounds-present, grounds-count}
use Rattle.call_ground.proofs.ReturnLaws.{returning-refuse, returning-accept}
use Rattle.ask_commit.specs.declared.Site.{Site}
use Rattle.ask_commit.specs.Asking.{Ready, Asking}
use Rattle.ask_commit.specs.InnerReply.{each_of, Replied}
use Rattle.ask_commit.specs.InnerRest.{AdmittedImage}
use Rattle.ask_commit.proofs.AdmittedLaws.{here, present-many}
use Rattle.ask_commit.proofs.GroundHeld.{held-parts, given-inner, inner-put}
use Rattle.ask_commit.proofs.HeldTable.{Alone, given-alone, held_table, held-present, held-used, held-sound, held-matched, held-followed}
use Rattle.ask_commit.proofs.ReplyPuts.{turn-shown}

-- As many leases are given again as there are places.
given-count : (us : List Lease) (places : List ℕ) (n : ℕ) → length places ≡ n → length (cat_maybes (given_in us places)) ≡ others_in no_place places n
given-count us places n e = one_each places ∙ ap (others_in no_place places) e
  where
    one_each : (ps : List ℕ) → length (cat_maybes (given_in us ps)) ≡ others_in no_place ps (length ps)
    one_each [] = refl
    one_each (p ∷ ps) = ⊎_elim (λ (b : eqb p no_place ≡ true). rw b (one_each ps)) (λ (b : eqb p no_place ≡ false). rw b (ap suc (one_each ps))) (bool_cases (eqb p no_place))

-- What an accepted call leaves does not depend on what stood in the place of the leases.
left_over : (l l₁ : List ℕ) (from n : ℕ) (zs ys : List Lease) (now : ℕ) → length zs ≡ n → l₁ ≡ put l from (concat_map lease_record zs) → left_in l₁ from n ys now ≡ left_in l from n ys now
left_over l l₁ from n zs ys now many e =
    let new : List ℕ = concat_map lease_record ys ++ replicate (lease_size * (n - length ys)) 0 in
    let long : length new ≡ lease_size * length ys + lease_size * (n - length ys) =
    length-append (concat_map lease_record ys) (replicate (lease_size * (n - length ys)) 0) ∙ omega (arith, length-leases ys, length-replicate {A = ℕ} (lease_size * (n - length ys)) 0) in
    ap (λ (m : List ℕ). put m last_at (le32 now))
    (ap (λ (m : List ℕ). put m from new) e ∙ put-over (concat_map lease_record zs) new l from (omega (arith, long, length-leases zs)))

module _ (h : Lent) (now client : ℕ) (reply : List ℕ) (site : Site) (asked_lengths asked_h : List ℕ) (a : Ready h now client reply site asked_lengths asked_h) where
  abbrev pub admitted-image : AdmittedImage h.image now client site.summary
  admitted-image = record { lent = h; same = refl; admitted = a.admitted }

  abbrev summary : ImageSummary
  summary = site.summary

  -- Where the leases of the ground begin among those of the image, and how many they are.
  abbrev first : ℕ
  first = site.area.first

  abbrev count : ℕ
  count = site.area.leases

  abbrev whole : LeaseTable
  whole = table_in h

  abbrev us : List Lease
  us = used_leases (table_in h)

  -- Those on the ground.
  abbrev ms : List Lease
  ms = take site.area.leases (drop site.area.first (used_leases (table_in h)))

  abbrev xs : List Lease
  xs = here h now

  many-present : summary.leases - summary.expired ≡ length (here h now)
  many-present = present-many h.image now client summary admitted-image

  few_on : first + count ≤ length us
  few_on = omega (arith, a.within.1, a.admitted.leases)

  module _ (name : Name) (option : List ℕ) (selection : Option (List ℕ)) (k : Asking h now name (call_with client option selection reply) site asked_lengths asked_h) where
    abbrev c : Call
    c = call_with client option selection reply

    abbrev rs : List Request
    rs = requests_in option

    abbrev label : Name
    label = ask_name (call_with client option selection reply)

    -- The table with the ground of the call, and the leases that may be given again.
    abbrev t : LeaseTable
    t = narrowed (table_in h) c

    abbrev hs : List Lease
    hs = usable_leases (table_in h) c xs

    hs-are : hs ≡ present now ms
    hs-are = grounds-present h c summary site.area k.grounds now client a.admitted

    pub asks-are : Asks (narrowed (table_in h) (call_with client option selection reply)) (requests_in option) site.summary.default_length asked_lengths asked_h
    asks-are = record { by_default = a.admitted.default ∙ sym (narrowed-default whole c); lengths = k.lengths; flags = k.flags }

    -- What the requests get again, what they get, and what is left where no row applies.
    abbrev gs : List (Option Lease)
    gs = again t client hs rs

    abbrev asked : List (Option Lease)
    asked = ask_gives t now client label hs xs rs

    abbrev after : List Lease
    after = ask_leases t now client label hs xs rs

    abbrev granted_outcome : Result State
    granted_outcome = accept (left (state_in h) now after) (option_bytes (map information_for (cat_maybes asked)) ++ returned selection) (length (cat_maybes asked)) reply

    own_row : (n : ℕ) → (n ≡ 0 → ⊥) → refusal_place option n ≡ 0 → first_of (grant_rows (state_in h) now c) ≡ some n → returning selection (outcome (refusal n 0) h reply) ≡ ask_image h now c
    unfolding ask
    own_row n some-row p e =
        returning-refuse selection n 0 h reply some-row
        ∙ ap (λ (m : ℕ). outcome (refusal n m) h reply) (sym p) ∙ row-refuses h (ask_rows (state_in h) now c) (refusal_place option) reply granted_outcome n some-row (k.left-rows ∙ e)

    -- The leases after it are good, and fit the table.
    on-ground : Ground (pools_of whole) t
    on-ground = area whole c a.admitted.sound

    after-good : offer-laws.Inv t now client label on-ground.good (pools_of whole) after
    after-good =
        offer-laws.offers-inv t now client label on-ground.good (pools_of whole) on-ground (eqb-false client 0 a.admitted.some-client) (rest_of gs rs) (ask_held t now client hs xs rs)
        (rest_all (λ r. r.length ≤ 30) gs rs (requests-short option))
        (record { fine = held-fine now (cat_maybes gs) (pools_of whole) xs (sound-fine whole a.admitted.sound now); fit = omega (arith, held-length now (cat_maybes gs) xs, sound-fewer whole a.admitted.sound now) })

    -- THE PLACES of what is given again, and THE COLUMNS of what is offered.
    module _ (places : List ℕ) (same : length places ≡ length asked_lengths) (found : given_in ms places ≡ again t client (present now ms) rs)
        (networks lengths : List ℕ) (hn : length asked_lengths ≤ length networks) (hl : length asked_lengths ≤ length lengths) (granted : Granted t now client name xs (given_in ms places) rs networks lengths)
        (m n : ℕ) (m-is : m ≡ others_in no_place places (length asked_lengths)) (n-is : n ≡ leases_in lengths (length asked_lengths)) where
      given_is : given_in ms places ≡ gs
      given_is = found ∙ ap (λ (ys : List Lease). again t client ys rs) (sym hs-are)

      abbrev os : List (Option Lease)
      os = offers_in client (now + hold_time) name networks lengths asked_h

      offered-is : os ≡ rest_offers t now client label xs gs rs
      offered-is =
          ap (offers_in client (now + hold_time) name networks lengths) k.flags ∙ granted.held ∙ ap₂ (λ (ps : List (Option Lease)) (n : Name). rest_offers t now client n xs ps rs) given_is k.named

      same-many : length gs ≡ length rs
      same-many = again-length t client rs hs

      -- What is added is what the ledger offers the rest.
      added_is : (ys : List Lease) → add_all os ys ≡ add_all (ask_offers t now client label hs xs rs) ys
      added_is ys =
          ap (λ (ps : List (Option Lease)). add_all ps ys) offered-is
          ∙ rest-added t now client label gs rs xs ys same-many
          ∙ ap (λ (ps : List (Option Lease)). add_all ps ys) (sym (rest-offers t now client label hs xs rs))

      offered-many : length (cat_maybes (ask_offers t now client label hs xs rs)) ≡ n
      offered-many =
          let e = ap length (added_is []) in
          let here-many = offers-many client (now + hold_time) name networks lengths asked_h (omega (arith, a.same)) (omega (arith, a.same)) ∙ ap (leases_in lengths) a.same in
          omega (arith, e, added-length os [], added-length (ask_offers t now client label hs xs rs) [], here-many, n-is)

      given-many : length (cat_maybes gs) ≡ m
      given-many = sym (ap (λ (ps : List (Option Lease)). length (cat_maybes ps)) given_is) ∙ given-count ms places (length asked_lengths) same ∙ sym m-is

      gets-many : length (cat_maybes asked) ≡ m + n
      gets-many = turn-count now gs (ask_offers t now client label hs xs rs) (rest-fills t now client label hs (ask_held t now client hs xs rs) rs) ∙ omega (arith, given-many, offered-many)

      -- No more than ask.
      gets-few : m + n ≤ length asked_lengths
      gets-few =
          omega (arith, gets-many, cat_maybes-few asked, turn-length now gs (ask_offers t now client label hs xs rs), same-many, ap length k.lengths, length-map rs (λ (r : Request). r.length))

      -- Rows 9 and 10: no request gets anything, and no option follows.
      module _ (nothing : m + n ≡ 0) where
        pub ask-full : lease_slots ≤ summary.leases - summary.expired → returning selection (outcome (refusal 9 0) h reply) ≡ ask_image h now c
        ask-full all =
            own_row 9 (λ w. omega arith) refl
            (rw (nothing-none (cat_maybes asked) (gets-many ∙ nothing), le-leb lease_slots (length xs) (omega (arith, many-present))))

        pub ask-none : summary.leases - summary.expired < lease_slots → returning selection (outcome (refusal 10 0) h reply) ≡ ask_image h now c
        ask-none space =
            own_row 10 (λ w. omega arith) refl
            (rw (nothing-none (cat_maybes asked) (gets-many ∙ nothing), lt-leb lease_slots (length xs) (omega (arith, many-present))))

      -- HELD ANEW

      abbrev given : List Lease
      given = cat_maybes (given_in ms places)

      alone : All (Alone now us) given
      alone = subst (λ (ps : List (Option Lease)). All (Alone now us) (cat_maybes ps)) (sym found) (given-alone whole a.admitted.sound t now client first count rs)

      pub anew : LeaseTable
      anew = held_table whole a.admitted.sound now a.admitted.since a.admitted.early given alone

      abbrev zs : List Lease
      zs = held_again now given us

      used-anew : used_leases anew ≡ zs
      unfolding anew
      used-anew = held-used whole a.admitted.sound now a.admitted.since a.admitted.early given alone

      present-anew : present now (used_leases anew) ≡ ask_held t now client hs xs rs
      unfolding anew
      present-anew =
          ap (present now) used-anew
          ∙ held-present whole a.admitted.sound now a.admitted.since a.admitted.early given alone
          ∙ ap₂ (λ (ps : List (Option Lease)) (ys : List Lease). held_again now (cat_maybes ps) ys) given_is (sym a.admitted.present-used)

      grown-is : grown anew now os ≡ after
      grown-is = ap (add_all os) present-anew ∙ added_is (ask_held t now client hs xs rs)

      pub ask-fresh : Fresh anew now os
      ask-fresh = record {
        ascends = subst Ascending (sym grown-is) (ascending-prefixes 0 after after-good.fine.1);
        fits = omega (arith, ap length grown-is, after-good.fit);
      }

      -- What is edited are records of leases on the ground.
      module _ (image : List ℕ) (edited : image ≡ put h.image (leases_from summary + lease_size * first) (concat_map lease_record (held_again now given ms))) where
        among : zs ≡ take first us ++ (held_again now given ms ++ drop (first + count) us)
        among =
            held-parts now first count given us
            (subst (λ (ps : List (Option Lease)). All (λ y. All (λ z. y.network ≡ z.network → ⊥) (take first us) × All (λ z. y.network ≡ z.network → ⊥) (drop (first + count) us)) (cat_maybes ps)) (sym found)
            (given-inner t client now first count rs us a.admitted.ascending))

        edited-is : image ≡ put h.image (leases_from summary) (concat_map lease_record zs)
        edited-is =
            edited
            ∙ inner-put h.image (leases_from summary) us a.admitted.records first count few_on (held_again now given ms) (held-length now given ms ∙ grounds-count h c summary site.area k.grounds now client a.admitted)
            ∙ ap (λ (ys : List Lease). put h.image (leases_from summary) (concat_map lease_record ys)) (sym among)

        zs-many : length zs ≡ summary.leases
        zs-many = held-length now given us ∙ sym a.admitted.leases

        pub standing : Standing image h.figures (leases_from summary) summary.leases summary.expired now anew (state_in h).rows
        unfolding anew
        standing =
            let o = a.admitted in
            let sheet = o.sheet-in refl in
            record {
              sound = held-sound whole o.sound now o.since o.early given alone;
              matched = held-matched whole o.sound now o.since o.early given alone (state_in h).rows sheet.matched;
              whole = sheet.whole;
              records =
                  subst (λ (ys : List Lease). Records image (leases_from summary) ys) (sym used-anew)
                  (subst (λ (l : List ℕ). Records l (leases_from summary) zs) (sym edited-is) (put-records h.image (leases_from summary) zs (omega (arith, zs-many, o.size, o.within))));
              leases = sym zs-many ∙ ap length (sym used-anew);
              none-expired = λ z.
                  let all = o.none-expired z in
                  ap (present now) used-anew
                  ∙ held-present whole o.sound now o.since o.early given alone
                  ∙ ap (held_again now given) all
                  ∙ sym used-anew;
              present-many = many-present ∙ sym (held-length now (cat_maybes gs) xs) ∙ ap length (sym present-anew);
            }

        module _ (some-given : m + n ≡ 0 → ⊥) (image₁ sheet offered : List ℕ) (wrote : ℕ)
            (g : Grown image (leases_from summary) summary.leases now anew (state_in h).rows os image₁ sheet)
            (f : Replied reply offered wrote (map information_for (cat_maybes (each_of (given_in ms places) os)))) where
          written : List ℕ
          written = option_bytes (map information_for (cat_maybes asked))

          written-many : length written ≡ 3 + 10 * (m + n)
          unfolding written
          written-many = ask-bytes (cat_maybes asked) ∙ omega (arith, gets-many)

          shown-is : map information_for (cat_maybes (each_of (given_in ms places) os)) ≡ map information_for (cat_maybes asked)
          shown-is =
              ap₂ (λ (ps qs : List (Option Lease)). map information_for (cat_maybes (each_of ps qs))) given_is offered-is
              ∙ sym (turn-shown t now client label gs rs xs same-many)
              ∙ ap (λ (ps : List (Option Lease)). map information_for (cat_maybes (in_turn now gs ps))) (sym (rest-offers t now client label hs xs rs))

          wrote-is : wrote ≡ length written
          unfolding written
          wrote-is = f.bytes-are ∙ ap (λ (ss : List SuboptionValue). length (option_bytes ss)) shown-is

          reply-is : offered ≡ written ++ drop (length written) reply
          unfolding written
          reply-is =
              f.after_is
              ∙ ap (λ (ss : List SuboptionValue). put reply 0 (option_bytes ss)) shown-is
              ∙ put-fits written reply 0 (omega (arith, written-many, gets-few, a.room, a.few))
              ∙ ap (λ (k : ℕ). written ++ drop k reply) (zero-add (length written))

          image-is : image₁ ≡ left_in h.image (leases_from summary) summary.leases after now
          image-is =
              g.after_is
              ∙ ap (λ (ys : List Lease). left_in image (leases_from summary) summary.leases ys now) grown-is
              ∙ left_over h.image image (leases_from summary) summary.leases zs after now zs-many edited-is

          sheet-is : sheet ≡ sheet_of (followed now whole (state_in h).rows (store whole now after))
          unfolding anew
          sheet-is =
              g.sheet-is
              ∙ ap (λ (ys : List Lease). sheet_of (followed now anew (state_in h).rows (store anew now ys))) grown-is
              ∙ ap sheet_of (held-followed whole a.admitted.sound now a.admitted.since a.admitted.early given alone (state_in h).rows after)

          after-many : length after ≡ summary.leases - summary.expired + n
          after-many = omega (arith, added-length (ask_offers t now client label hs xs rs) (ask_held t now client hs xs rs), held-length now (cat_maybes gs) xs, offered-many, many-present)

          pub ask-granted : (bytes : ℕ) → bytes ≡ leases_from summary + lease_size * (summary.leases - summary.expired + n)
              → returning selection (outcome (acceptance wrote (m + n)) (lent image₁ bytes sheet) offered) ≡ ask_image h now c
          unfolding written ask left
          ask-granted bytes ends =
              let some-lease : nothing? (cat_maybes asked) ≡ false = nothing-some (cat_maybes asked) (λ z. some-given (sym gets-many ∙ z)) in
              let full-slots : All (λ x. empty? x ≡ false) after = all_map (λ x l. long-not-empty x (omega arith)) after (fine-long (pools_of whole) now 0 after after-good.fine) in
              let place = left-in-place true h now client summary a.admitted after after-good.fit full-slots image₁ image-is (followed now whole (state_in h).rows (store whole now after)) sheet sheet-is in
              let end : Lent = lent image₁ (leases_from summary + lease_size * length after) sheet in
              ap₂ (λ (w : ℕ) (l : List ℕ). returning selection (outcome (acceptance w (m + n)) (lent image₁ bytes sheet) l)) wrote-is reply-is
              ∙ ap₂ (λ (w b : ℕ). returning selection (accept (lent image₁ b sheet) written w reply)) (sym gets-many) (ends ∙ ap (λ (w : ℕ). leases_from summary + lease_size * w) (sym after-many))
              ∙ returning-accept selection end written (length (cat_maybes asked)) reply (omega (arith, written-many, gets-few, a.few, k.room))
              ∙ accepts h (ask_rows (state_in h) now c) (refusal_place option) reply granted_outcome (k.left-rows ∙ rw some-lease) granted_outcome refl refl end place
