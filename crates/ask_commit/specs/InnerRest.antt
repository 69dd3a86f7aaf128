-- What is known of an image where the requests of an ask are served.
use Rattle.std.specs.Prelude.{ℕ, ◌≡◌, true, List}
use Rattle.image_check.specs.declared.ImageSummary.{ImageSummary}
use Rattle.call_spec.specs.ImageCalls.{Lent}
use Rattle.call_rows.specs.Admission.{Admitted}

-- The image is that of a call that is admitted, with its figures sheet. The time matters: it tells which leases have expired, and so how many gaps and slots there are.
pub record AdmittedImage (image : List ℕ) (now client : ℕ) (summary : ImageSummary) : Type 0 where
  pub lent : Lent
  pub same : lent.image ≡ image
  pub admitted : Admitted true lent now client summary
