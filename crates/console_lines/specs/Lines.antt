-- The lines of the output that tell what calls answer.
use Rattle.std.specs.Prelude.{ℕ, cond, List, ◌++◌, take, eqb}
use Rattle.lists.specs.Lists.{concat_map}
use Rattle.text.specs.Ascii.{ascii}
use Rattle.text.specs.Decimal.{digits}
use Rattle.console_text.specs.Text.{hex_of}
use Rattle.ledger.specs.declared.Answer.{Answer}
use Rattle.ledger.specs.Ledger.{placed?}

-- Twenty digits hold every number of 64 bits.
abbrev pub decimal : ℕ → List ℕ
decimal n = digits 19 n

abbrev pub ok_line : List ℕ
ok_line = ascii "ok\n"

-- "refused 7 place=3: the refusal that has a place", and "refused 16 place=3, as for 7"
unfoldable pub refused_line : ℕ → ℕ → List ℕ
refused_line number place =
    cond (placed? number) (ascii "refused " ++ (decimal number ++ (ascii " place=" ++ (decimal place ++ ascii "\n"))))
    (ascii "refused " ++ decimal number ++ ascii "\n")

-- "error line 12: a line that is no command"
abbrev pub error_line : ℕ → List ℕ
error_line n = ascii "error line " ++ decimal n ++ ascii "\n"

-- "ok count=2"
abbrev pub count_line : ℕ → List ℕ
count_line n = ascii "ok count=" ++ decimal n ++ ascii "\n"

-- "all hexadecimal in lower case"
abbrev pub octet_text : List ℕ → List ℕ
octet_text octets = concat_map hex_of octets

-- "ok bytes=13 count=1 dc0b0002080 ..: bytes written, entries, the bytes"
abbrev pub reply_line : ℕ → ℕ → List ℕ → List ℕ
reply_line bytes count octets = ascii "ok bytes=" ++ (decimal bytes ++ (ascii " count=" ++ (decimal count ++ (ascii " " ++ (octet_text octets ++ ascii "\n")))))

-- "ok bytes=41 0b000100 .."
abbrev pub bytes_line : ℕ → List ℕ → List ℕ
bytes_line bytes octets = ascii "ok bytes=" ++ (decimal bytes ++ (ascii " " ++ (octet_text octets ++ ascii "\n")))

-- The line of an answer: a refusal's, or another where the call is accepted.
abbrev pub answered : Answer → List ℕ → List ℕ
answered a line = cond (eqb a.number 0) line (refused_line a.number a.place)

-- open, load, mark
abbrev pub done_line : Answer → List ℕ
done_line a = answered a ok_line

-- return
abbrev pub counted_line : Answer → List ℕ
counted_line a = answered a (count_line a.count)

-- ask, take, list, with the reply buffer after the call
abbrev pub replied_line : Answer → List ℕ → List ℕ
replied_line a reply = answered a (reply_line a.bytes a.count (take a.bytes reply))

-- save and write, with the buffer that was written to
abbrev pub written_line : Answer → List ℕ → List ℕ
written_line a buffer = answered a (bytes_line a.bytes (take a.bytes buffer))
