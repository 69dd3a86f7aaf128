-- Address prefixes (document 01: blocks): a network and a length, from which every size and end comes.
use Rattle.std.specs.Prelude.{ℕ, ◌+◌, ◌-◌, ◌^◌, ◌%◌, ◌≤◌, ◌<◌, ◌≡◌, ◌⊎◌, Bool, cond, not, ◌&&◌, ◌||◌, leb, eqb, Result, Ok, Err, is_ok}
use Rattle.prefix.specs.declared.{Prefix.Prefix, PrefixFault.PrefixFault}
use Rattle.prefix.specs.declared.PrefixFault.TheVariants.{BadLength, Misaligned}

-- "A block length runs from 1 to 30"
abbrev pub shortest : ℕ
shortest = 1

abbrev pub longest : ℕ
longest = 30

-- "the thirty-three block sizes for lengths 0 to 32, 2^(32 - length)"
abbrev pub size : ℕ → ℕ
size length = 2 ^ (32 - length)

abbrev pub prefix : ℕ → ℕ → Prefix
prefix network length = record { network = network; length = length }

-- The first address after a prefix. That of the last prefix is 2^32.
abbrev pub end : Prefix → ℕ
end p = p.network + size p.length

-- "aligned (its network is a multiple of its size)"
abbrev pub Aligned : Prefix → Type 0
Aligned p = p.network % size p.length ≡ 0

abbrev pub aligned? : Prefix → Bool
aligned? p = eqb (p.network % size p.length) 0

-- Each address of a is one of b.
abbrev pub Inside : Prefix → Prefix → Type 0
Inside a b = (b.network ≤ a.network) × (end a ≤ end b)

abbrev pub inside? : Prefix → Prefix → Bool
inside? a b = leb b.network a.network && leb (end a) (end b)

-- a and b share no address.
abbrev pub Apart : Prefix → Prefix → Type 0
Apart a b = (end a ≤ b.network) ⊎ (end b ≤ a.network)

abbrev pub apart? : Prefix → Prefix → Bool
apart? a b = leb (end a) b.network || leb (end b) a.network

-- The two halves of a prefix.
abbrev pub lower : Prefix → Prefix
lower p = prefix p.network (p.length + 1)

abbrev pub upper : Prefix → Prefix
upper p = prefix (p.network + size (p.length + 1)) (p.length + 1)

-- An address lies in a prefix.
abbrev pub In : ℕ → Prefix → Type 0
In address p = (p.network ≤ address) × (address < end p)

-- A prefix as document 01 has it: of a length that a block may have, and aligned. The first rule that fails is the answer.
abbrev pub checked : ℕ → ℕ → Result Prefix PrefixFault
checked network length =
    cond (not (leb shortest length && leb length longest)) (Err BadLength)
    (cond (aligned? (prefix network length)) (Ok (prefix network length)) (Err Misaligned))

-- Whether it is one.
abbrev pub block? : Result Prefix PrefixFault → Bool
block? = is_ok
