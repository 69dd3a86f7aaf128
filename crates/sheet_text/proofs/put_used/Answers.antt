-- `sheet_text::put_used` meets its contract.
use native.Mathlib.Omega.{arith}
use Rattle.text.proofs.TextLaws.{wrote_then}
use Rattle.sheet_text.specs.Sheet.{row_text}
use Rattle.sheet_text.proofs.put_used.Goals as goal

pub put-requires : goal.put-requires
put-requires c =
    let word = c.put-word in
    let place = c.put_prefix-place in
    let station = c.put-station in
    let client = c.decimal-client in
    let until = c.put-until in
    let expires = c.decimal-expires in
    let name = c.put_name-name in
    omega (
      arith,
      word.ensures.place,
      place.ensures.value,
      station.ensures.place,
      client.ensures.place,
      until.ensures.place,
      expires.ensures.place,
      name.ensures.place,
      word.auto.out,
      place.auto.out,
      station.auto.out,
      client.auto.out,
      until.auto.out,
      expires.auto.out,
      name.auto.out,
      c.requires,
    )

pub returns : goal.returns
unfolding row_text
returns c =
    let word = c.put-word.ensures in
    let place = c.put_prefix-place.ensures.wrote in
    let station = c.put-station.ensures in
    let client = c.decimal-client.ensures in
    let until = c.put-until.ensures in
    let expires = c.decimal-expires.ensures in
    let name = c.put_name-name.ensures in
    let end = c.put.ensures in
    wrote_then (wrote_then (wrote_then (wrote_then (wrote_then (wrote_then (wrote_then word place) station) client) until) expires) name) end
