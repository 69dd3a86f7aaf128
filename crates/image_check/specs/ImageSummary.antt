-- What a call looks at in an image before it touches a lease: the head of the table, and how many pools and leases it has.
use Rattle.std.specs.Prelude.{ℕ, length, leb, Option as Maybe, Some, None}
use Rattle.std.proofs.Math.Option.{Option, none, some}
use Rattle.lists.specs.Lists.{filter}
use Rattle.table.specs.declared.LeaseTable.{LeaseTable}
use Rattle.image.specs.Image.{used_pools, used_leases}
use Rattle.image_check.specs.declared.ImageSummary.{ImageSummary}

-- Of a table, at a time: "lines with end at or before now count as absent".
abbrev pub summary_at : ℕ → LeaseTable → ImageSummary
summary_at now t = record {
  term = t.term;
  default_length = t.default_length;
  last = t.last;
  pools = length (used_pools t);
  leases = length (used_leases t);
  expired = length (filter (λ x. leb x.expires now) (used_leases t));
}

-- Of the table that the bytes are the image of; of bytes that are none, nothing.
abbrev pub summary_of : ℕ → Option LeaseTable → Maybe ImageSummary
summary_of now none = None
summary_of now (some t) = Some (summary_at now t)
