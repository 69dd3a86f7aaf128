-- `grant` meets its contract: rows 9 and 10, or what the requests get.
use Prim.Native.Nat.{ℕ, ◌+◌, ◌-◌, ◌*◌, ◌≤◌}
use mathlib.Core.Path.{◌≡◌, refl, sym, ap, subst, ◌∙◌}
use mathlib.Core.List.{List}
use mathlib.Core.Option.{Option}
use native.Mathlib.Omega.{arith}
use lib.ListN.{length, take}
use lib.Seq.{length-take-le}
use Rattle.lists.specs.Lists.{All}
use Rattle.lists.proofs.ListLaws.{all_map}
use Rattle.lists.proofs.TakeLaws.{take_short}
use Rattle.table.specs.declared.Lease.{Lease}
use Rattle.table.specs.Table.{present}
use Rattle.image.specs.Image.{lease_size, used_leases}
use Rattle.option.specs.Values.{longest_option, most_requests}
use Rattle.option.specs.Contents.{requests_in}
use Rattle.ledger.specs.Ledger.{Call, call_with, narrowed, hold_time, again}
use Rattle.ledger.proofs.ReadLaws.{requests-short}
use Rattle.ask_again.specs.Places.{no_place, Within, InBuffer, given_in, others_in}
use Rattle.ask_again.proofs.Counting.{others-none, others-few, others-first}
use Rattle.ask_serve.specs.Granting.{leases_in, Granted}
use Rattle.call_spec.specs.ImageCalls.{Lent, lent, table_in, state_in}
use Rattle.call_rows.specs.Admission.{leases_from}
use Rattle.call_ground.specs.Ground.{leases_in as leases_on}
use Rattle.call_ground.proofs.GroundsLaws.{grounds-count, grounds-records, grounds-ascending}
use Rattle.ask_commit.specs.Asking.{Asking}
use Rattle.ask_commit.proofs.AdmittedLaws.{fewer, records-fit, fits, rows_fit}
use Rattle.ask_commit.proofs.GrantLaws.{admitted-image, asks-are, ask-full, ask-none, anew, ask-fresh, standing, ask-granted}
use Rattle.ask_commit.proofs.grant.Goals as goal
use Rattle.ask_commit.proofs.grant.Goals.{After-find_held-again, After-serve_rest-granted, After-put_offers-bytes}

-- What is lent.
abbrev lent_of : After-find_held-again → Lent
lent_of c = let a = c.args in lent a.image.now a.image_bytes.now a.figures.now

-- THE PLACES of what is given again.
abbrev column-of : After-find_held-again → List ℕ
column-of c = c.find_held-again.new.places

abbrev places_of : After-find_held-again → List ℕ
places_of c = take (length c.args.ask_lengths.now) (column-of c)

places-many : (c : After-find_held-again) → length (places_of c) ≡ length c.args.ask_lengths.now
places-many c = length-take-le _ (column-of c) (omega (arith, c.requires.few, c.find_held-again.auto.places))

places_count : (c : After-find_held-again) → c.find_held-again.result ≡ others_in no_place (places_of c) (length c.args.ask_lengths.now)
places_count c =
    c.find_held-again.ensures.value ∙ sym (others-first no_place (column-of c) (length c.args.ask_lengths.now))

-- Where the leases on the ground begin, and these leases.
abbrev from-of : After-find_held-again → ℕ
from-of c = let a = c.args in leases_from a.site.summary + lease_size * a.site.area.first

abbrev on_of : After-find_held-again → List Lease
on_of c = leases_on c.args.site.area (used_leases (table_in (lent_of c)))

within : (c : After-find_held-again) → All (Within c.args.site.area.leases) (places_of c)
within c = c.find_held-again.ensures.all

fit-in : (c : After-find_held-again) → All (InBuffer (from-of c) (length c.args.image.now)) (places_of c)
fit-in c =
    let k = c.requires in
    let room = records-fit _ _ _ _ (admitted-image _ _ _ _ _ _ _ k) in
    all_map (λ p w some-place. omega (arith, room, w some-place, k.within.1)) (places_of c) (within c)

-- A call that the columns are of.
abbrev call-of : After-find_held-again → List ℕ → Option (List ℕ) → Call
call-of c option selection = call_with c.args.asker.client option selection c.args.reply.now

abbrev Asks-it : After-find_held-again → List ℕ → Option (List ℕ) → Type 0
Asks-it c option selection = let a = c.args in Asking (lent_of c) a.asker.time a.asker.name (call-of c option selection) a.site a.ask_lengths.now a.ask_h.now

given_is : (c : After-find_held-again) → let a = c.args in (option : List ℕ) (selection : Option (List ℕ)) → Asks-it c option selection
    → given_in (on_of c) (places_of c) ≡ again (narrowed (table_in (lent_of c)) (call-of c option selection)) a.asker.client (present a.asker.time (on_of c)) (requests_in option)
given_is c option selection k =
    let h = lent_of c in
    let it = call-of c option selection in
    c.find_held-again.ensures.places_after (narrowed (table_in h) it) (on_of c) (requests_in option) (grounds-records h it _ _ k.grounds _ _ c.requires.admitted) (sym (grounds-count h it _ _ k.grounds _ _ c.requires.admitted))
    (asks-are _ _ _ _ _ _ _ c.requires _ option selection k)

-- THE COLUMNS of what the rest is offered.
abbrev networks-of : After-serve_rest-granted → List ℕ
networks-of c = c.serve_rest-granted.new.networks

abbrev lengths-of : After-serve_rest-granted → List ℕ
lengths-of c = c.serve_rest-granted.new.lengths

long-enough : (c : After-serve_rest-granted) → let n = length c.args.ask_lengths.now in (n ≤ length (networks-of c)) × (n ≤ length (lengths-of c))
long-enough c =
    let few = c.requires.few in
    (omega (arith, few, c.serve_rest-granted.auto.networks), omega (arith, few, c.serve_rest-granted.auto.lengths))

granted : (c : After-serve_rest-granted) → let a = c.args in let h = lent a.image.now a.image_bytes.now a.figures.now in
    let places = take (length a.ask_lengths.now) c.find_held-again.new.places in
    (option : List ℕ) (selection : Option (List ℕ)) → let it = call_with a.asker.client option selection a.reply.now in
    Asking h a.asker.time a.asker.name it a.site a.ask_lengths.now a.ask_h.now
    → Granted (narrowed (table_in h) it) a.asker.time a.asker.client a.asker.name (present a.asker.time (table_in h).leases) (given_in (leases_on a.site.area (used_leases (table_in h))) places)
    (requests_in option) (networks-of c) (lengths-of c)
granted c option selection k =
    let a = c.args in
    let h = lent a.image.now a.image_bytes.now a.figures.now in
    c.serve_rest-granted.ensures.equation h (call_with a.asker.client option selection a.reply.now) (leases_on a.site.area (used_leases (table_in h))) (requests_in option) refl c.requires.admitted k.grounds k.lengths (requests-short option)

-- HOW MANY get something: each of the two numbers is small.
few-count : (c : After-serve_rest-granted) → (c.find_held-again.result ≤ most_requests) × (c.serve_rest-granted.result ≤ most_requests)
few-count c =
    let few = c.requires.few in
    let n = length c.args.ask_lengths.now in
    let places = c.find_held-again.new.places in (
      omega (arith, few, c.find_held-again.ensures.value, sym (others-first no_place places n), others-few no_place (take n places) n, take_short n (take n places)),
      omega (arith, few, c.serve_rest-granted.ensures.bounds.0),
    )

pub slice_bounds-serve_rest-end : goal.slice_bounds-serve_rest-end
slice_bounds-serve_rest-end c = sym (places-many (goal.at.slice_bounds-serve_rest-end c).After-find_held-again)

pub serve_rest-granted-requires : goal.serve_rest-granted-requires
serve_rest-granted-requires c =
    let n = length c.args.ask_lengths.now in
    (admitted-image _ _ _ _ _ _ _ c.requires, c.requires.within, places-many (goal.at.serve_rest-granted-requires c).After-find_held-again, places_count (goal.at.serve_rest-granted-requires c).After-find_held-again, omega (arith, c.requires.few), omega (arith, c.requires.few), others-none 0 most_requests n)

pub overflow_add-count : goal.overflow_add-count
overflow_add-count c = let few = few-count (goal.at.overflow_add-count c).After-serve_rest-granted in omega (arith, few.0, few.1)

pub overflow_sub-summary : goal.overflow_sub-summary
overflow_sub-summary c = fewer _ _ _ _ (admitted-image _ _ _ _ _ _ _ c.requires)

pub returns-then-summary-ge-LEASES : goal.returns-then-summary-ge-LEASES
returns-then-summary-ge-LEASES c =
    let found = (goal.at.returns-then-summary-ge-LEASES c).After-find_held-again in
    let served = (goal.at.returns-then-summary-ge-LEASES c).After-serve_rest-granted in
    let long = long-enough served in record {
      bytes_bound = omega arith;
      equation = λ option selection k.
          ask-full _ _ _ _ _ _ _ c.requires _ option selection k (places_of found) (places-many found) (given_is found option selection k) (networks-of served) (lengths-of served) long.0 long.1 (granted served option selection k)
          c.find_held-again.result c.serve_rest-granted.result (places_count found) c.serve_rest-granted.ensures.bounds.2 c.if-count-eq0.true c.if-summary-ge-LEASES.true;
    }

pub returns-then-count-eq0 : goal.returns-then-count-eq0
returns-then-count-eq0 c =
    let found = (goal.at.returns-then-count-eq0 c).After-find_held-again in
    let served = (goal.at.returns-then-count-eq0 c).After-serve_rest-granted in
    let long = long-enough served in record {
      bytes_bound = omega arith;
      equation = λ option selection k.
          ask-none _ _ _ _ _ _ _ c.requires _ option selection k (places_of found) (places-many found) (given_is found option selection k) (networks-of served) (lengths-of served) long.0 long.1 (granted served option selection k)
          c.find_held-again.result c.serve_rest-granted.result (places_count found) c.serve_rest-granted.ensures.bounds.2 c.if-count-eq0.true c.if-summary-ge-LEASES.false;
    }

pub slice_bounds-put_offers-end : goal.slice_bounds-put_offers-end
slice_bounds-put_offers-end c = sym (places-many (goal.at.slice_bounds-put_offers-end c).After-find_held-again)

pub put_offers-bytes-requires : goal.put_offers-bytes-requires
put_offers-bytes-requires c =
    let found = (goal.at.put_offers-bytes-requires c).After-find_held-again in
    let served = (goal.at.put_offers-bytes-requires c).After-serve_rest-granted in
    let k = c.requires in
    let long = long-enough served in
    (omega (arith, k.same, k.few), omega (arith, k.same, k.few, k.room), omega (arith, k.same, places-many found), omega (arith, k.same, long.0), omega (arith, k.same, long.1), fit-in found)

pub slice_bounds-places-end-3 : goal.slice_bounds-places-end-3
slice_bounds-places-end-3 c = omega (arith, c.requires.few, c.find_held-again.auto.places)

pub slice_bounds-hold_again-end : goal.slice_bounds-hold_again-end
slice_bounds-hold_again-end c = sym (places-many (goal.at.slice_bounds-hold_again-end c).After-find_held-again)

pub hold_again-requires : goal.hold_again-requires
hold_again-requires c = (fit-in (goal.at.hold_again-requires c).After-find_held-again, c.requires.admitted.early)

-- As many as places of the columns have a lease.
counted : (served : After-serve_rest-granted) → served.serve_rest-granted.result ≡ leases_in (lengths-of served) (length served.args.ask_h.now)
counted served = served.serve_rest-granted.ensures.bounds.2 ∙ ap (leases_in (lengths-of served)) (sym served.requires.same)

pub commit_grants-requires : goal.commit_grants-requires
commit_grants-requires c =
    let served = (goal.at.commit_grants-requires c).After-serve_rest-granted in
    let k = c.requires in
    let q = admitted-image _ _ _ _ _ _ _ k in
    let many = counted served in
    let fit = fits _ _ _ _ q c.serve_rest-granted.result c.serve_rest-granted.ensures.bounds.1 in
    let long = long-enough served in
    let kept = c.hold_again.auto.image in (
      fewer _ _ _ _ q,
      omega (arith, records-fit _ _ _ _ q, kept),
      omega (arith, many, fit.0, kept),
      rows_fit _ _ _ _ q,
      omega (arith, many, fit.1),
      k.admitted.early,
      omega (arith, k.same, k.few),
      omega (arith, k.same, long.0),
      omega (arith, k.same, long.1),
    )

-- How many bytes the reply has.
short-of : (c : After-put_offers-bytes) → c.put_offers-bytes.result ≤ longest_option
short-of c =
    let k = c.requires in
    omega (arith, c.put_offers-bytes.ensures.upper_bound, k.same, k.few)

pub overflow_cast-result : goal.overflow_cast-result
overflow_cast-result c = omega (arith, short-of (goal.at.overflow_cast-result c).After-put_offers-bytes)

pub overflow_cast-result-2 : goal.overflow_cast-result-2
overflow_cast-result-2 c = let few = few-count (goal.at.overflow_cast-result-2 c).After-serve_rest-granted in omega (arith, few.0, few.1)

pub returns : goal.returns
returns c =
    let found = (goal.at.returns c).After-find_held-again in
    let served = (goal.at.returns c).After-serve_rest-granted in
    let a = c.args in
    let h = lent_of found in
    let m = c.find_held-again.result in
    let n = c.serve_rest-granted.result in
    let m-is = places_count found in
    let n-is = c.serve_rest-granted.ensures.bounds.2 in
    let long = long-enough served in
    let o = c.requires.admitted in
    let ms = on_of found in
    let image = c.commit_grants.new.image in
    let sheet = c.commit_grants.new.figures in record {
      bytes_bound = short-of (goal.at.returns c).After-put_offers-bytes;
      equation = λ option selection k.
          let it = call-of found option selection in
          let gave = given_is found option selection k in
          let is-granted = granted served option selection k in
          let stand = grounds-records h it _ _ k.grounds _ _ o in
          let inside = subst (λ (w : ℕ). All (Within w) (places_of found)) (sym (grounds-count h it _ _ k.grounds _ _ o)) (within found) in
          let edited = c.hold_again.ensures ms stand (grounds-ascending h it _ _ k.grounds _ _ o) inside in
          let is-grown =
          c.commit_grants.ensures.grown
          (anew _ _ _ _ _ _ _ c.requires _ option selection k (places_of found) (places-many found) gave (networks-of served) (lengths-of served) long.0 long.1 is-granted m n m-is n-is) (state_in h).rows
          (standing _ _ _ _ _ _ _ c.requires _ option selection k (places_of found) (places-many found) gave (networks-of served) (lengths-of served) long.0 long.1 is-granted m n m-is n-is c.hold_again.new.image edited)
          (ask-fresh _ _ _ _ _ _ _ c.requires _ option selection k (places_of found) (places-many found) gave (networks-of served) (lengths-of served) long.0 long.1 is-granted m n m-is n-is) in
          ask-granted _ _ _ _ _ _ _ c.requires _ option selection k (places_of found) (places-many found) gave (networks-of served) (lengths-of served) long.0 long.1 is-granted m n m-is n-is c.hold_again.new.image edited
          c.if-count-eq0.false image sheet c.put_offers-bytes.new.reply c.put_offers-bytes.result is-grown (c.put_offers-bytes.ensures.equation a.asker.client (a.asker.time + hold_time) a.asker.name ms stand inside)
          c.commit_grants.result (c.commit_grants.ensures.value ∙ ap (λ (w : ℕ). leases_from a.site.summary + lease_size * (a.site.summary.leases - a.site.summary.expired + w)) (sym (counted served)));
    }
