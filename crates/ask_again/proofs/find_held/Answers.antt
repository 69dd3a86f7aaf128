-- `find_held` meets its contract: after the first i records the places are those of the leases that the requests get again of these,
-- and the first request of each key that has no place is known.
use Prim.Native.Nat.{ℕ, ◌+◌, ◌≤◌, ◌<◌}
use mathlib.Core.Path.{◌≡◌, refl, sym, ap, subst, ◌∙◌}
use mathlib.Core.Bool.{Bool, false, true≢false}
use mathlib.Core.List.{List}
use native.Mathlib.Omega.{arith}
use lib.ListN.{length, get_or, get_or-replicate}
use Rattle.std.specs.Prelude.{Some, None, is_some}
use Rattle.std.specs.Prelude.{Option as Optional}
use Rattle.ask_again.specs.Places.{no_place}
use Rattle.ask_again.specs.InnerChains.{key_in, Waiting}
use Rattle.ask_again.proofs.ChainLaws.{waiting-start, chained-given, chained-waiting}
use Rattle.ask_again.proofs.FindLaws.{Going, Reached, left-less, going-none, going_to, going_more, going-few, going-all, going-full}
use Rattle.ask_again.proofs.find_held.Goals as goal
use Rattle.ask_again.proofs.find_held.Goals.{After-next_held-held, Then-is_none, In_default, In-Some, After-give_place-given}

-- At the first record of a lease that the asker holds.
searched : (c : After-next_held-held) → let a = c.args in
    Reached a.image.now a.from a.n a.asker.client a.asker.time a.default_length a.ask_lengths.now a.ask_h.now c.next_held-held.result c.fill.new.self 0
searched c =
    let a = c.args in
    going_to a.image.now a.from a.n a.asker.client a.asker.time a.default_length a.ask_lengths.now a.ask_h.now 0 (omega arith) c.fill.new.self 0 c.next_held-held.result c.next_held-held.ensures
    (subst (λ (ps : List ℕ). Going a.image.now a.from a.n a.asker.client a.asker.time a.default_length a.ask_lengths.now a.ask_h.now 0 ps 0) (sym (c.fill.ensures.after (λ y e. e)))
    (going-none a.image.now a.from a.n a.asker.client a.asker.time a.default_length a.ask_lengths.now a.ask_h.now (length a.places.now) c.requires.3))

none_is : (o : Optional ℕ) → is_some o ≡ false → o ≡ None
none_is None e = refl
none_is (Some x) e = absurd (true≢false e)

-- The asker holds none.
nothing-held : (c : Then-is_none) → let a = c.args in Going a.image.now a.from a.n a.asker.client a.asker.time a.default_length a.ask_lengths.now a.ask_h.now a.n c.fill.new.self 0
nothing-held c =
    let a = c.args in
    subst (λ (o : Optional ℕ). Reached a.image.now a.from a.n a.asker.client a.asker.time a.default_length a.ask_lengths.now a.ask_h.now o c.fill.new.self 0) (none_is c.next_held-held.result (c.if-is_none.ensures))
    (searched (goal.at.returns-then-is_none-clause-value c).After-next_held-held)

pub returns-then-is_none-clause-value : goal.returns-then-is_none-clause-value
returns-then-is_none-clause-value c = (nothing-held (goal.at.returns-then-is_none-clause-value c).Then-is_none).counted

pub returns-then-is_none-clause-all : goal.returns-then-is_none-clause-all
returns-then-is_none-clause-all c = (nothing-held (goal.at.returns-then-is_none-clause-all c).Then-is_none).inside

pub returns-then-is_none-clause-places_after : goal.returns-then-is_none-clause-places_after
returns-then-is_none-clause-places_after c =
    let a = c.args in
    going-all a.image.now a.from a.n a.asker.client a.asker.time a.default_length a.ask_lengths.now a.ask_h.now _ _ _ (nothing-held (goal.at.returns-then-is_none-clause-places_after c).Then-is_none) (omega arith)

pub chain-requires : goal.chain-requires
chain-requires c = (refl, refl, c.requires.4, c.requires.2)

pub loop-held-init : goal.loop-held-init
loop-held-init c =
    let a = c.args in
    let n = length a.ask_lengths.now in (
      searched (goal.at.loop-held-init c).After-next_held-held,
      waiting-start (key_in a.ask_lengths.now a.ask_h.now a.default_length) n _ c.fill.new.self c.chain.ensures.heads
          (λ k h. ap (λ (ps : List ℕ). get_or ps k 0) (c.fill.ensures.after (λ y e. e)) ∙ get_or-replicate (length a.places.now) k no_place 0 (omega (arith, c.requires.3))),
    )

-- There is a place for each request.
room : (c : In-Some) → length c.args.ask_lengths.now ≤ length c.loop-held.places
room c = omega (arith, c.requires.3, c.loop-held.auto.places, c.fill.ensures.len)

pub give_place-given-requires : goal.give_place-given-requires
give_place-given-requires c = (room (goal.at.give_place-given-requires c).In-Some, c.requires.4, c.key_of-key.ensures.1)

-- Once a lease is given.
module _ (c : After-give_place-given) where
  reached : let a = c.args in
      Reached a.image.now a.from a.n a.asker.client a.asker.time a.default_length a.ask_lengths.now a.ask_h.now (Some c.in-Some.i) c.loop-held.places c.loop-held.given
  reached = let a = c.args in subst (λ (o : Optional ℕ). Reached a.image.now a.from a.n a.asker.client a.asker.time a.default_length a.ask_lengths.now a.ask_h.now o c.loop-held.places c.loop-held.given) c.in-Some.is c.loop-held.invariant.0

  inside : c.in-Some.i < c.args.n
  inside = reached.0

  some-place : c.in-Some.i ≡ no_place → ⊥
  some-place e = omega (arith, c.requires.1, inside)

  abbrev key : ℕ → ℕ
  key = key_in c.args.ask_lengths.now c.args.ask_h.now c.args.default_length

  abbrev len : ℕ
  len = c.length_at.result

  abbrev flag : Bool
  flag = c.h_at.result

  room-here : length c.args.ask_lengths.now ≤ length c.loop-held.places
  room-here = omega (arith, c.requires.3, c.loop-held.auto.places, c.fill.ensures.len)

  waiting : Waiting key (length c.args.ask_lengths.now) c.give_place-given.new.places c.give_place-given.new.first
  waiting =
      let a = c.args in
      chained-waiting a.ask_lengths.now a.ask_h.now a.default_length c.loop-held.places c.loop-held.first _ c.loop-held.invariant.1 c.chain.ensures.linked room-here
      c.key_of-key.result c.key_of-key.ensures.1 len flag c.key_of-key.ensures.0 c.in-Some.i some-place c.give_place-given.new.places c.give_place-given.new.first c.give_place-given.result c.give_place-given.ensures

  gone : let a = c.args in
      Going a.image.now a.from a.n a.asker.client a.asker.time a.default_length a.ask_lengths.now a.ask_h.now (c.in-Some.i + 1) c.give_place-given.new.places (c.loop-held.given + c.give_place-given.result)
  gone =
      let a = c.args in
      going_more a.image.now a.from a.n a.asker.client a.asker.time a.default_length a.ask_lengths.now a.ask_h.now
      c.in-Some.i inside c.loop-held.places c.loop-held.given reached.2 reached.1 len c.length_at.ensures flag c.h_at.ensures
      c.give_place-given.new.places c.give_place-given.result
      (chained-given a.ask_lengths.now a.ask_h.now a.default_length c.loop-held.places c.loop-held.first _ c.loop-held.invariant.1 c.chain.ensures.linked room-here
      c.key_of-key.result c.key_of-key.ensures.1 len flag c.key_of-key.ensures.0 c.in-Some.i some-place c.give_place-given.new.places c.give_place-given.new.first c.give_place-given.result c.give_place-given.ensures)

  room_after : length c.args.ask_lengths.now ≤ length c.give_place-given.new.places
  room_after = omega (arith, room-here, c.give_place-given.auto.places)

  few : c.loop-held.given + c.give_place-given.result ≤ length c.args.ask_lengths.now
  few =
      let a = c.args in
      going-few a.image.now a.from a.n a.asker.client a.asker.time a.default_length a.ask_lengths.now a.ask_h.now
      (c.in-Some.i + 1) c.give_place-given.new.places (c.loop-held.given + c.give_place-given.result) gone room_after

pub overflow_add-given : goal.overflow_add-given
overflow_add-given c = omega (arith, few (goal.at.overflow_add-given c).After-give_place-given)

pub returns-then-given-requests-clause-value : goal.returns-then-given-requests-clause-value
returns-then-given-requests-clause-value c = (gone (goal.at.returns-then-given-requests-clause-value c).After-give_place-given).counted

pub returns-then-given-requests-clause-all : goal.returns-then-given-requests-clause-all
returns-then-given-requests-clause-all c = (gone (goal.at.returns-then-given-requests-clause-all c).After-give_place-given).inside

pub returns-then-given-requests-clause-places_after : goal.returns-then-given-requests-clause-places_after
returns-then-given-requests-clause-places_after c =
    let a = c.args in
    let gave = (goal.at.returns-then-given-requests-clause-places_after c).After-give_place-given in
    going-full a.image.now a.from a.n a.asker.client a.asker.time a.default_length a.ask_lengths.now a.ask_h.now _ _ _ (gone gave) (room_after gave) c.if-given-requests.true

pub next_held-held-requires-in-Some : goal.next_held-held-requires-in-Some
next_held-held-requires-in-Some c = (c.requires.0, omega (arith, inside (goal.at.next_held-held-requires-in-Some c).After-give_place-given))

pub loop-held-smaller : goal.loop-held-smaller
loop-held-smaller c =
    let a = c.args in
    rw c.in-Some.is (left-less a.image.now a.from a.n a.asker.client a.asker.time a.default_length a.ask_lengths.now a.ask_h.now c.in-Some.i (inside (goal.at.loop-held-smaller c).After-give_place-given) c.next_held-held-in-Some.result c.next_held-held-in-Some.ensures)

pub loop-held-preserved : goal.loop-held-preserved
loop-held-preserved c =
    let a = c.args in
    let gave = (goal.at.loop-held-preserved c).After-give_place-given in (
      going_to a.image.now a.from a.n a.asker.client a.asker.time a.default_length a.ask_lengths.now a.ask_h.now (c.in-Some.i + 1) (omega (arith, inside gave)) c.give_place-given.new.places _ c.next_held-held-in-Some.result c.next_held-held-in-Some.ensures (gone gave),
      waiting gave,
    )

-- Past the last record.
done : (c : In_default) → let a = c.args in Going a.image.now a.from a.n a.asker.client a.asker.time a.default_length a.ask_lengths.now a.ask_h.now a.n c.loop-held.places c.loop-held.given
done c = let a = c.args in subst (λ (o : Optional ℕ). Reached a.image.now a.from a.n a.asker.client a.asker.time a.default_length a.ask_lengths.now a.ask_h.now o c.loop-held.places c.loop-held.given) c.in_default.is c.loop-held.invariant.0

pub returns-clause-value : goal.returns-clause-value
returns-clause-value c = (done (goal.at.returns-clause-value c).In_default).counted

pub returns-clause-all : goal.returns-clause-all
returns-clause-all c = (done (goal.at.returns-clause-all c).In_default).inside

pub returns-clause-places_after : goal.returns-clause-places_after
returns-clause-places_after c =
    let a = c.args in
    going-all a.image.now a.from a.n a.asker.client a.asker.time a.default_length a.ask_lengths.now a.ask_h.now _ _ _ (done (goal.at.returns-clause-places_after c).In_default) (omega arith)
