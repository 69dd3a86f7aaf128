-- `image_check::check_in` meets its contract.
use Prim.Native.Nat.{ℕ, ◌-◌}
use mathlib.Core.Path.{◌≡◌, sym, ap, ap₂, ◌∙◌}
use mathlib.Core.Logic.{inl, inr}
use mathlib.Core.Bool.{true}
use mathlib.Core.List.{List}
use mathlib.Core.Option.{some}
use lib.ListN.{length, take, drop}
use Rattle.lists.specs.Lists.{and}
use Rattle.image.specs.declared.Form.{Form}
use Rattle.image.specs.declared.Head.{Head}
use Rattle.image.specs.Image.{head_size}
use Rattle.image.specs.Reading.{head_in, head_tests_in, pools_at, after_head_in, load_in}
use Rattle.image.proofs.ImageLaws.{head-long, load-no-head, load-head}
use Rattle.image_check.specs.ImageSummary.{summary_of}
use Rattle.image_check.proofs.RunLaws.{part-rest}
use Rattle.image_check.proofs.PoolLaws.{counted-pools}
use Rattle.image_check.proofs.SummaryLaws.{read-unsound}
use borrow.Author.Rules.{rules}
use Rattle.image_check.proofs.check_in.Goals as goal

-- The bytes after the head, and that the answer is that for them.
abbrev body : List ℕ → List ℕ
body s = take (length s - head_size) (drop head_size s)

rest : (form : Form) (s : List ℕ) (time : ℕ) (head : Head) → and (head_tests_in form s) ≡ true → head ≡ head_in s
    → summary_of time (after_head_in form (some head) (body s)) ≡ summary_of time (load_in form s)
rest form s time head found e =
    ap (summary_of time) (ap₂ (λ (x : Head) (l : List ℕ). after_head_in form (some x) l) e (part-rest s head_size) ∙ sym (load-head form s found))

pub returns-then-not-head_begins : goal.returns-then-not-head_begins
returns-then-not-head_begins c =
    ap (summary_of c.args.time) (sym (load-no-head c.args.form c.args.image.now (sym c.head_begins.ensures ∙ c.if-not-head_begins.true)))

pub head_in-head-requires : goal.head_in-head-requires
head_in-head-requires c = head-long c.args.form c.args.image.now (sym c.head_begins.ensures ∙ c.if-not-head_begins.false)

pub returns-then-not-head_ok : goal.returns-then-not-head_ok
returns-then-not-head_ok c =
    let a = c.args in
    sym (read-unsound a.form c.head_in-head.result (body a.image.now) a.time (inl (sym c.head_ok.ensures ∙ c.if-not-head_ok.true)))
    ∙ rest a.form a.image.now a.time c.head_in-head.result (sym c.head_begins.ensures ∙ c.if-not-head_begins.false) c.head_in-head.ensures

pub slice_bounds-pools_in-count : goal.slice_bounds-pools_in-count
slice_bounds-pools_in-count c = head-long c.args.form c.args.image.now (sym c.head_begins.ensures ∙ c.if-not-head_begins.false)

pub slice_bounds-pools_in-start : goal.slice_bounds-pools_in-start
slice_bounds-pools_in-start c = let h = head-long c.args.form c.args.image.now (sym c.head_begins.ensures ∙ c.if-not-head_begins.false) in search rules

pub returns-in_err-n : goal.returns-in_err-n
returns-in_err-n c =
    let a = c.args in
    let none = sym c.in_err-n.ensures in
    c.from_residual.ensures
    ∙ sym (read-unsound a.form c.head_in-head.result (body a.image.now) a.time (inr (λ n e. cc)))
    ∙ rest a.form a.image.now a.time c.head_in-head.result (sym c.head_begins.ensures ∙ c.if-not-head_begins.false) c.head_in-head.ensures

pub returns-then-n-eq0 : goal.returns-then-n-eq0
returns-then-n-eq0 c =
    let a = c.args in
    let some-n = sym c.in_ok-n.ensures in
    let zero = c.if-n-eq0.true in
    sym (read-unsound a.form c.head_in-head.result (body a.image.now) a.time (inr (λ n e. cc)))
    ∙ rest a.form a.image.now a.time c.head_in-head.result (sym c.head_begins.ensures ∙ c.if-not-head_begins.false) c.head_in-head.ensures

pub leases_in-requires : goal.leases_in-requires
leases_in-requires c =
    let a = c.args in
    let pools = counted-pools (pools_at (body a.image.now)).items c.in_ok-n.n (sym c.in_ok-n.ensures) in
    record { headed = sym c.head_ok.ensures ∙ c.if-not-head_ok.false; ascends = pools.0; counted = pools.1; any = c.if-n-eq0.false }

pub returns : goal.returns
returns c = let a = c.args in c.leases_in.ensures ∙ rest a.form a.image.now a.time c.head_in-head.result (sym c.head_begins.ensures ∙ c.if-not-head_begins.false) c.head_in-head.ensures
