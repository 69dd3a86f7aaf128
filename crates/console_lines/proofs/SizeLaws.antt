-- How many bytes an entry and a suboption take, against the text that they make.
-- Assumes nothing.
use Prim.Native.Nat.{ℕ, ◌+◌, ◌-◌, ◌*◌, ◌≤◌}
use native.Mathlib.Omega.{arith}
use mathlib.Core.Path.{◌≡◌, sym, subst}
use mathlib.Core.List.{List}
use lib.ListN.{length}
use Rattle.option.specs.Values.{SuboptionValue, request, information, name, unknown}
use Rattle.option.specs.Reading.{read_entry, read_suboption}
use Rattle.option.specs.Answers.{entry_step_of, step_of, suboption_of}
use Rattle.option_entry.specs.declared.EntryFields.{EntryFields}
use Rattle.option_entry.specs.declared.EntryCursor.{EntryCursor}
use Rattle.option.specs.declared.Cursor.{Cursor}
use Rattle.option.specs.declared.Suboption.{Suboption}
use Rattle.std.specs.declared.option.Option.TheVariants.{Some}
use Rattle.std.specs.declared.result.Result.TheVariants.{Ok}
use Rattle.option.proofs.EntryLaws.{entry_read, told-entry}
use Rattle.option.proofs.SuboptionLaws.{suboption-read, suboption-ends, told-piece}
use Rattle.console_lines.specs.InnerSizes.{most, Within}

-- Seven bytes or more for an entry.
pub record EntryTaken (end at : ℕ) (c : EntryCursor) : Type 0 where
  pub seven : at + 7 ≤ c.at
  pub whole : c.at ≤ end
  pub same : c.end ≡ end

pub entry-taken : (s : List ℕ) (end at : ℕ) (f : EntryFields) (c : EntryCursor) → entry_step_of end (read_entry s end at) ≡ Ok (Some (f, c)) → EntryTaken end at c
entry-taken s end at f c h =
    let t = told-entry end (read_entry s end at) f c h in
    let r = entry_read s end at t.0 c.at t.1 in
    record { seven = omega (arith, r.2); whole = omega (arith, r.0.whole, r.2); same = t.3 }

-- Two bytes or more for a suboption, and 28 for each hold its text.
pub record Taken (s : List ℕ) (at : ℕ) (x : Suboption) (c : Cursor) : Type 0 where
  pub two : at + 2 ≤ c.at
  pub inside : c.at ≤ length s
  pub room : most x ≤ 28 * (c.at - at)
  pub within : Within s x

room_of : (x : SuboptionValue) (at next : ℕ) → at + 2 ≤ next → most (suboption_of x at next) ≤ 28 * (next - at)
room_of (request h i len) at next le = omega arith
room_of (information c d es) at next le = omega arith
room_of (name octets) at next le = omega arith
room_of unknown at next le = omega arith

within_of : (s : List ℕ) (x : SuboptionValue) (at next : ℕ) → at + 2 ≤ next → next ≤ length s → Within s (suboption_of x at next)
within_of s (request h i len) at next le inside = tt
within_of s (information c d es) at next le inside = tt
within_of s (name octets) at next le inside = (le, inside)
within_of s unknown at next le inside = tt

pub taken : (s : List ℕ) (at : ℕ) (x : Suboption) (c : Cursor) → step_of at (read_suboption s at) ≡ Ok (Some (x, c)) → Taken s at x c
taken s at x c h =
    let t = told-piece at (read_suboption s at) x c h in
    let ends = suboption-ends s at t.0 c.at t.1 in
    let two : at + 2 ≤ c.at = omega (arith, ends) in
    let inside : c.at ≤ length s = omega (arith, ends, (suboption-read s at t.0 c.at t.1).fits) in
    record {
      two = two;
      inside = inside;
      room = subst (λ (y : Suboption). most y ≤ 28 * (c.at - at)) (sym t.2) (room_of t.0 at c.at two);
      within = subst (Within s) (sym t.2) (within_of s t.0 at c.at two inside);
    }
