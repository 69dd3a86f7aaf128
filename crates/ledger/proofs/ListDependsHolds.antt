-- A list's answer depends only on what document 01 says.
-- Assumes nothing.
use Prim.Native.Nat.{ℕ}
use mathlib.Core.Path.{◌≡◌, refl, sym, ap, ap₂, ◌∙◌}
use mathlib.Core.Bool.{Bool, true, false, not, ◌&&◌, ◌||◌, true≢false}
use mathlib.Core.List.{List, [], ◌∷◌, map}
use mathlib.Core.Option.{Option, none, some}
use lib.ListN.{length, drop}
use lib.ListN.{take as up_to}
use lib.Seq.{take-append_seam}
use lib.Dec.{ltb, eqb}
use native.Mathlib.Omega.{arith}
use borrow.Author.Tests.{ltb-true}
use Rattle.lists.specs.Lists.{and, filter}
use Rattle.lists.proofs.MapLaws.{filter-filter}
use Rattle.lists.proofs.FilterLaws.{filter_same}
use Rattle.lists.proofs.Tests.{bool_cases, not-of}
use mathlib.Core.Logic.{⊎_elim}
use Rattle.option.specs.Values.{information}
use Rattle.option.specs.Reading.{read_option}
use Rattle.option.specs.Writing.{option_bytes}
use Rattle.table.specs.declared.{Lease.Lease, LeaseTable.LeaseTable}
use Rattle.table.specs.Table.{latest, empty?, present, sound}
use Rattle.table.proofs.TableLaws.{empty-to}
use Rattle.figures.specs.declared.FigureRow.{FigureRow}
use Rattle.option.specs.Contents.{refuses?, suboptions, requests_in, position}
use Rattle.option_reply.specs.Reply.{most_entries, entry_of}
use Rattle.ledger.specs.Ledger.{State, state, Call, call, least_reply, ledger, Result, refuse, acceptance, accept, Row, first_of, or_else, nothing?, refusal_place, for_list, above?, listed, listed_in, list_rows, list}
use Rattle.ledger.specs.ListDepends.{answered, DependsOnly}

-- What is listed is a part of this client's leases: a slot that expires after a time is not empty.
not-empty : (now : ℕ) (x : Lease) → ltb now x.expires ≡ true → not (empty? x) ≡ true
not-empty now x e =
    ⊎_elim
    (λ (h : empty? x ≡ true). absurd (omega (arith, ltb-true now x.expires e, ap (λ (y : Lease). y.expires) (empty-to x h))))
    (λ (h : empty? x ≡ false). not-of (empty? x) h)
    (bool_cases (empty? x))

regroup : (l n c k : Bool) → (l ≡ true → n ≡ true) → (l && (c && k)) ≡ ((n && (c && true)) && (l && k))
regroup false false c k f = refl
regroup false true false k f = refl
regroup false true true k f = refl
regroup true false c k f = absurd (true≢false (sym (f refl)))
regroup true true false k f = refl
regroup true true true k f = refl

-- The leased ones above the position.
abbrev wanted : Option ℕ → Lease → Bool
wanted p x = and (x.leased ∷ above? p x.network ∷ [])

listed-from : (now client : ℕ) (p : Option ℕ) (xs : List Lease)
    → listed client p (present now xs) ≡ filter (λ x. ltb now x.expires && wanted p x) (filter (λ x. and (not (empty? x) ∷ eqb x.client client ∷ [])) xs)
unfolding present
listed-from now client p xs =
    filter-filter (λ x. ltb now x.expires) (λ x. and (eqb x.client client ∷ x.leased ∷ above? p x.network ∷ [])) xs
    ∙ filter_same (λ x. ltb now x.expires && and (eqb x.client client ∷ x.leased ∷ above? p x.network ∷ []))
    (λ x. and (not (empty? x) ∷ eqb x.client client ∷ []) && (ltb now x.expires && wanted p x))
    (λ x. regroup (ltb now x.expires) (not (empty? x)) (eqb x.client client) (wanted p x) (not-empty now x)) xs
    ∙ sym (filter-filter (λ x. and (not (empty? x) ∷ eqb x.client client ∷ [])) (λ x. ltb now x.expires && wanted p x) xs)

-- The rows as a function of what they depend on.
abbrev rows_by : ℕ → ℕ → List ℕ → Bool → ℕ → ℕ → List Lease → List Row
rows_by now client option sound? room last gs =
    (1, ltb room least_reply)
    ∷ (5, not sound?)
    ∷ (2, eqb client 0)
    ∷ (3, ltb now last)
    ∷ (4, ltb latest now)
    ∷ (6, refuses? 6 (read_option option) || false)
    ∷ (7, refuses? 7 (read_option option))
    ∷ (16, refuses? 16 (read_option option))
    ∷ (8, not (for_list (requests_in option)))
    ∷ (11, nothing? gs)
    ∷ []

rows_same : (s u : State) (now client : ℕ) (option reply reply' : List ℕ) → sound s.table ≡ true → sound u.table ≡ true → s.table.last ≡ u.table.last → length reply ≡ length reply'
    → listed_in s.table now client option ≡ listed_in u.table now client option
    → list_rows s now (call client option reply) ≡ list_rows u now (call client option reply')
unfolding list_rows
rows_same s u now client option reply reply' st su e l m =
    ap (λ (b : Bool). rows_by now client option b (length reply) s.table.last (listed_in s.table now client option)) (st ∙ sym su)
    ∙ ap₂ (λ (a b : ℕ). rows_by now client option (sound u.table) a b (listed_in s.table now client option)) l e
    ∙ ap (rows_by now client option (sound u.table) (length reply') u.table.last) m

-- An accepted list by what it lists.
abbrev page : State → List ℕ → List Lease → Result State
page s reply gs = accept s (option_bytes (information true (ltb most_entries (length gs)) (map entry_of (up_to most_entries gs)) ∷ [])) (length (up_to most_entries gs)) reply

answer-same : (s u : State) (reply reply' : List ℕ) (gs : List Lease) → answered (page s reply gs) ≡ answered (page u reply' gs)
answer-same s u reply reply' gs =
    let w = option_bytes (information true (ltb most_entries (length gs)) (map entry_of (up_to most_entries gs)) ∷ []) in
    ap (λ (l : List ℕ). (acceptance (length w) (length (up_to most_entries gs)), l))
    (take-append_seam w (drop (length w) reply) ∙ sym (take-append_seam w (drop (length w) reply')))

outcome-same : (s u : State) (option reply reply' : List ℕ) (o : Option ℕ) (r r' : Result State) → answered r ≡ answered r'
    → answered (or_else o (λ number. refuse number (refusal_place option number) s reply) r) ≡ answered (or_else o (λ number. refuse number (refusal_place option number) u reply') r')
outcome-same s u option reply reply' none r r' e = e
outcome-same s u option reply reply' (some n) r r' e = refl

pub list-depends : DependsOnly ledger
unfolding list
list-depends s u now client option reply reply' st su e l m =
    let p : Option ℕ = position none (suboptions (read_option option)) in
    let gs : List Lease = listed_in s.table now client option in
    let hs : List Lease = listed_in u.table now client option in
    let same : gs ≡ hs =
    listed-from now client p s.table.leases ∙ ap (filter (λ x. ltb now x.expires && wanted p x)) m ∙ sym (listed-from now client p u.table.leases) in
    ap (λ (rows : List Row). answered (or_else (first_of rows) (λ number. refuse number (refusal_place option number) s reply) (page s reply gs))) (rows_same s u now client option reply reply' st su e l same)
    ∙ ap (λ (xs : List Lease). answered (or_else (first_of (list_rows u now (call client option reply'))) (λ number. refuse number (refusal_place option number) s reply) (page s reply xs))) same
    ∙ outcome-same s u option reply reply' (first_of (list_rows u now (call client option reply'))) (page s reply hs) (page u reply' hs) (answer-same s u reply reply' hs)

-- Nor on the rows of the figures sheet, whatever the table is: a list has no sheet.
same-but-left : (s u : State) (option reply : List ℕ) (gs : List Lease) (o : Option ℕ)
    → let r = or_else o (λ number. refuse number (refusal_place option number) s reply) (page s reply gs) in
    let q = or_else o (λ number. refuse number (refusal_place option number) u reply) (page u reply gs) in
    (r.answer ≡ q.answer) × (r.reply ≡ q.reply)
same-but-left s u option reply gs none = (refl, refl)
same-but-left s u option reply gs (some n) = (refl, refl)

pub list-without-rows : (t : LeaseTable) (rows rows' : List FigureRow) (now : ℕ) (c : Call)
    → ((list (state t rows) now c).answer ≡ (list (state t rows') now c).answer) × ((list (state t rows) now c).reply ≡ (list (state t rows') now c).reply)
unfolding list list_rows
list-without-rows t rows rows' now c =
    same-but-left (state t rows) (state t rows') c.option c.reply (listed_in t now c.client c.option) (first_of (list_rows (state t rows) now c))
