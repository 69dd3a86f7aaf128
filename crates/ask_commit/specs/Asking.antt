-- What is known where an ask has passed every row before 9.
use Rattle.std.specs.Prelude.{ℕ, ◌+◌, ◌≤◌, ◌≡◌, true, List, map, length}
use Rattle.option.specs.Values.{most_requests}
use Rattle.option.specs.Contents.{requests_in}
use Rattle.names.specs.declared.Name.{Name}
use Rattle.ledger.specs.Ledger.{Call, ask_name, first_of, least_reply, returned, grant_rows, ask_rows}
use Rattle.option_scan.specs.Scanned.{flag_of}
use Rattle.call_spec.specs.ImageCalls.{Lent, state_in}
use Rattle.call_rows.specs.Admission.{Admitted}
use Rattle.call_ground.specs.Ground.{Grounds}
use Rattle.ask_commit.specs.declared.Site.{Site}

-- The ground lies within the image.
abbrev pub WithinSite : Site → Type 0
WithinSite site = (site.area.pool + site.area.pools ≤ site.summary.pools) × (site.area.first + site.area.leases ≤ site.summary.leases)

-- The call is admitted, with its figures sheet, the reply has room for every offer, and two columns have as many requests.
pub record Ready (h : Lent) (now client : ℕ) (reply : List ℕ) (site : Site) (asked_lengths asked_h : List ℕ) : Type 0 where
  pub admitted : Admitted true h now client site.summary
  pub within : WithinSite site
  pub room : least_reply ≤ length reply
  pub few : length asked_lengths ≤ most_requests
  pub same : length asked_h ≡ length asked_lengths

-- Rows 9 and 10 are left, the ground is that of the call, the columns hold the requests, the name is that of the ask, and option 118 has room after the offers.
pub record Asking (h : Lent) (now : ℕ) (name : Name) (c : Call) (site : Site) (asked_lengths asked_h : List ℕ) : Type 0 where
  pub left-rows : first_of (ask_rows (state_in h) now c) ≡ first_of (grant_rows (state_in h) now c)
  pub grounds : Grounds h c site.summary site.area
  pub named : name ≡ ask_name c
  pub lengths : asked_lengths ≡ map (λ r. r.length) (requests_in c.option)
  pub flags : asked_h ≡ map (λ r. flag_of r.h) (requests_in c.option)
  pub room : least_reply + length (returned c.selection) ≤ length c.reply
