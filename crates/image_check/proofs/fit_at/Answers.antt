-- `image_check::fit_at` meets its contract: a record that any of the tests refuses does not fit.
use Prim.Native.Nat.{ℕ}
use mathlib.Core.Path.{◌≡◌, sym, ap₂, ◌∙◌}
use mathlib.Core.Bool.{true≢false}
use mathlib.Core.List.{List}
use native.Mathlib.Omega.{arith}
use Rattle.std.specs.Prelude.{Some, None, Result, Ok, Err}
use Rattle.std.specs.Result.{result_ok}
use Rattle.prefix.specs.declared.{Prefix.Prefix, PrefixFault.PrefixFault}
use Rattle.prefix.specs.Prefixes.{end, checked}
use Rattle.prefix.proofs.BlockLaws.{block-made, made-block}
use Rattle.image.specs.Reading.{expires_in, length_in, network_in}
use Rattle.image.proofs.FieldLaws.{Bytes}
use Rattle.image_check.specs.Inner.{prefix_in, fit_of}
use Rattle.image_check.proofs.FitLaws.{size-least, Fits, word_bytes, bytes-told, fits-bytes, fit-other, fit-lease}
use Rattle.image_check.proofs.fit_at.Goals as goal
use Rattle.image_check.proofs.fit_at.Goals.{then-not-state_and_flags-via-then-not-state_and_flags, then-not-state_and_flags-via-else-not-state_and_flags+then-read32-eq0, then-expires-last-via-then-expires-last, then-expires-last-via-else-expires-last+then-not-name_fits}

-- The prefix that was made, if one was.
made : (r : Result Prefix PrefixFault) (p : Prefix) → result_ok r ≡ Some p → r ≡ Ok p
made (Ok q) p e = cc
made (Err f) p e = cc

refused : (r : Result Prefix PrefixFault) (p : Prefix) → r ≡ Ok p → result_ok r ≡ None → ⊥
refused (Ok q) p e n = cc
refused (Err f) p e n = cc

leased : (s : List ℕ) (p : Prefix) (to expires : ℕ) → p ≡ prefix_in s → to ≡ end p → expires ≡ expires_in s
    → Some (record { network = p.network; end = to; expires = expires }) ≡ Some (fit_of s)
leased s p to expires e t x = cc

pub read32-requires : goal.read32-requires
read32-requires c = omega (arith, size-least c.args.form)

pub returns-then-read32-lease_start : goal.returns-then-read32-lease_start
returns-then-read32-lease_start c =
    let a = c.args in
    fit-other a.form a.last a.s.now (λ f. c.if-read32-lease_start.true (c.read32.ensures ∙ f.start ∙ sym c.lease_start.ensures))

pub read32-word-requires : goal.read32-word-requires
read32-word-requires c = omega (arith, size-least c.args.form)

pub read32-requires-2 : goal.read32-requires-2
read32-requires-2 c = omega (arith, size-least c.args.form)

pub returns-in_err-p : goal.returns-in_err-p
returns-in_err-p c =
    let a = c.args in
    let s = a.s.now in
    let bytes : Bytes s = λ i. omega (arith, c.type_inv.s i) in
    let by = word_bytes s bytes c.read32-word.result c.read32-word.ensures in
    c.from_residual.ensures
    ∙ fit-other a.form a.last s (λ f.
    let asked : c.new.result ≡ checked (network_in s) (length_in s) = c.new.ensures ∙ ap₂ checked c.read32-2.ensures by.0 in
    let made = block-made (network_in s) (length_in s) (record { short = f.short; long = f.long; aligned = f.aligned }) in
    refused c.new.result _ (asked ∙ made) (sym c.ok.ensures.value ∙ c.in_err-p.was))

pub returns-then-not-state_and_flags : goal.returns-then-not-state_and_flags
returns-then-not-state_and_flags c =
    let a = c.args in
    let s = a.s.now in
    let bytes : Bytes s = λ i. omega (arith, c.type_inv.s i) in
    let by = word_bytes s bytes c.read32-word.result c.read32-word.ensures in
    fit-other a.form a.last s (λ f.
    elim c.then-not-state_and_flags.branch [
      | then-not-state_and_flags-via-then-not-state_and_flags w ↦ true≢false (sym (fits-bytes a.form a.last s f c.read32-word.result by.1 by.2) ∙ sym c.state_and_flags.ensures ∙ w.if-not-state_and_flags.true)
      | then-not-state_and_flags-via-else-not-state_and_flags+then-read32-eq0 w ↦ f.client (sym w.read32-else-not-state_and_flags.ensures ∙ w.if-read32-eq0.true)
    ])

pub returns-then-expires-last : goal.returns-then-expires-last
returns-then-expires-last c =
    let a = c.args in
    fit-other a.form a.last a.s.now (λ f.
    elim c.then-expires-last.branch [
      | then-expires-last-via-then-expires-last w ↦ omega (arith, f.later, c.read32-expires.ensures, w.if-expires-last.true)
      | then-expires-last-via-else-expires-last+then-not-name_fits w ↦ true≢false (sym f.named ∙ sym w.name_fits.ensures ∙ w.if-not-name_fits.true)
    ])

pub read32-requires-else-not-state_and_flags : goal.read32-requires-else-not-state_and_flags
read32-requires-else-not-state_and_flags c = omega (arith, size-least c.args.form)

pub read32-expires-requires : goal.read32-expires-requires
read32-expires-requires c = omega (arith, size-least c.args.form)

pub returns : goal.returns
returns c =
    let a = c.args in
    let s = a.s.now in
    let p = c.in_ok-p.p in
    let bytes : Bytes s = λ i. omega (arith, c.type_inv.s i) in
    let told = bytes-told c.read32-word.result (sym c.state_and_flags.ensures ∙ c.if-not-state_and_flags.false) in
    let by = word_bytes s bytes c.read32-word.result c.read32-word.ensures in
    let asked : c.new.result ≡ checked (network_in s) (length_in s) = c.new.ensures ∙ ap₂ checked c.read32-2.ensures by.0 in
    let block = made-block (network_in s) (length_in s) p (sym asked ∙ made c.new.result p (sym c.ok.ensures.value ∙ c.in_ok-p.was)) in
    let f : Fits a.form a.last s = record {
      start = sym c.read32.ensures ∙ c.if-read32-lease_start.false ∙ c.lease_start.ensures;
      short = block.1.short;
      long = block.1.long;
      low = omega (arith, by.1, told.0);
      high = omega (arith, by.1, told.1);
      flags = omega (arith, by.2, told.2);
      client = λ e. c.if-read32-eq0.false (c.read32-else-not-state_and_flags.ensures ∙ e);
      later = omega (arith, c.read32-expires.ensures);
      aligned = block.1.aligned;
      named = sym c.name_fits.ensures ∙ c.if-not-name_fits.false;
    } in
    leased s p c.end.result c.read32-expires.result block.0 c.end.ensures.value c.read32-expires.ensures ∙ fit-lease a.form a.last s f
