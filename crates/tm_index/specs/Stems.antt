-- Stems: by what an entry without a literal name is found. An entry that has one grants only
-- requests that have it too.
use Rattle.std.specs.Prelude.{ℕ, List, [], ◌∷◌, ◌++◌, length, take, nat_lt, Option, Some, None, if◌then◌else◌, ◌==◌, is_some, slice_get}
use Rattle.std.specs.Int.{to_be_bytes, w32, w128}
use Rattle.tm_word.specs.Prelude.{Pattern, Text, Word, is_plain, literal_word}
use Rattle.tm_rules.specs.Types.{Addr, AddrUnion, Args, argument_words}
use Rattle.tm_rules.specs.Prelude.{addr_value, addrs_equal}
use Rattle.tm_index.specs.Names.{first_pattern, literal_of}

-- the bytes of an address
abbrev pub addr_stem : Addr → Text
addr_stem (Addr.V4 n) = to_be_bytes w32 n
addr_stem (Addr.V6 n) = to_be_bytes w128 n

-- the stem of an address argument: that of its address, where it has one alone
abbrev pub union_stem : AddrUnion → Option Text
union_stem (AddrUnion.One range) =
    if addrs_equal range.low range.high then Some (addr_stem range.low) else None
union_stem (AddrUnion.Group group) = None

-- the components before the first that stands for other bytes than its own
abbrev pub plain_front : Pattern → Pattern
plain_front [] = []
plain_front (c ∷ cs) = if is_plain c then c ∷ plain_front cs else []

-- a stem has fewer bytes than this, so that the stems of a name are few and short however long it
-- is
abbrev pub stem_room : ℕ
stem_room = 256

-- bytes that are few enough
abbrev pub short_stem : Text → Option Text
short_stem bytes = if nat_lt (length bytes) stem_room then Some bytes else None

-- what they stand for, where there is one and its bytes are few enough
abbrev pub front_stem : Pattern → Option Text
front_stem [] = None
front_stem (c ∷ cs) = short_stem (literal_word (c ∷ cs))

-- the stem of a pattern: what all names that it matches begin with
abbrev pub pattern_stem : Pattern → Option Text
pattern_stem pattern_ = front_stem (plain_front pattern_)

-- the address argument of a line
abbrev pub addr_of : Args → Option AddrUnion
addr_of (Args.Inet kind addr port) = Some addr
addr_of _ = None

-- the stem of the first pattern, or else of the address
abbrev pub stem_by : Option Pattern → Option AddrUnion → Option Text
stem_by (Some pattern_) addr = pattern_stem pattern_
stem_by None (Some addr) = union_stem addr
stem_by None None = None

-- the stem of a line that has no literal name
unfoldable pub stem_of : Args → Option Text
stem_of args =
    if is_some (literal_of args) then None else stem_by (first_pattern args) (addr_of args)

-- what stands before each slash of a name after these bytes, and the whole
abbrev pub stems_after : Text → Word → List Text
stems_after before [] = before ∷ []
stems_after before (b ∷ bs) =
    if b == 47 then before
    ∷ stems_after (before ++ b ∷ []) bs else stems_after (before ++ b ∷ []) bs

-- the stems of a name
abbrev pub name_stems : Word → List Text
name_stems name = stems_after [] name

-- those of the first bytes of the first name, or else the bytes of the address
abbrev pub stems_by : Option Word → Option AddrUnion → List Text
stems_by (Some name) addr = name_stems (take stem_room name)
stems_by None (Some addr) = addr_stem (addr_value addr) ∷ []
stems_by None None = []

-- the stems of a request
unfoldable pub stems_asked : Args → List Text
stems_asked args = stems_by (slice_get (argument_words args) 0) (addr_of args)
