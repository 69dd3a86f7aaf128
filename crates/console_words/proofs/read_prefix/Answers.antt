-- `read_prefix` meets its contract.
use mathlib.Core.Path.{refl, ap, ◌∙◌}
use native.Mathlib.Omega.{arith}
use Rattle.console_words.specs.Prefixes.{network_of}
use Rattle.console_words.proofs.WordLaws.{found-first, found-rest}
use Rattle.console_words.proofs.PrefixLaws.{no_slash, prefix-no-network, prefix-no-length, prefix-of, whole}
use Rattle.console_words.proofs.read_prefix.Goals as goal

pub returns-then-at-s : goal.returns-then-at-s
returns-then-at-s c = no_slash _ _ (found-rest _ 0 47 _ c.find-at.ensures.place) c.if-at-s.true

pub returns-in_err-network : goal.returns-in_err-network
returns-in_err-network c =
    let s = c.args.s.now in
    let at = c.find-at.result in
    let f = c.find-at.ensures.place in
    rw c.from_residual.ensures (prefix-no-network s at (found-rest s 0 47 at f) (omega arith) _ (c.in_err-network.ensures ∙ ap network_of (found-first s 47 at f)) refl)

pub returns-in_err-length : goal.returns-in_err-length
returns-in_err-length c =
    let s = c.args.s.now in
    let at = c.find-at.result in
    let f = c.find-at.ensures.place in
    rw c.from_residual-in_err-length.ensures (prefix-no-length s at (found-rest s 0 47 at f) (omega arith) _ (c.in_ok-network.ensures ∙ ap network_of (found-first s 47 at f)) _ refl _ (c.in_err-length.ensures ∙ whole s _) refl)

pub returns : goal.returns
returns c =
    let s = c.args.s.now in
    let at = c.find-at.result in
    let f = c.find-at.ensures.place in
    prefix-of s at (found-rest s 0 47 at f) (omega arith) _ (c.in_ok-network.ensures ∙ ap network_of (found-first s 47 at f)) _ refl _ (c.in_ok-length.ensures ∙ whole s _) _ refl
