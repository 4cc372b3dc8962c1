-- The generated trace: trees of 40 records, of which each tenth executes a program and the others
-- read, write or look at a file.
use Rattle.std.specs.Prelude.{ℕ, zero, suc, ◌%◌, ◌==◌, if◌then◌else◌, [], ◌++◌, codes, decimal}
use Rattle.tm_word.specs.Prelude.{Text}
use Rattle.tm_gen.specs.Draws.{next_state, drawn}

-- a text and a number behind it
unfoldable pub numbered : Text → ℕ → Text
numbered text number = text ++ decimal number

-- the attributes of an execute of the program with this number
abbrev pub execute_attributes : ℕ → Text
execute_attributes program = numbered (codes " exec.realpath=\"/p") program ++ (numbered (codes "\" exec.argv=\"p") program ++ codes "\"\n")

-- the line by which a tree executes the program with this number
abbrev pub execute_line : ℕ → ℕ → Text
execute_line tree program = numbered (codes "do ") tree ++ (numbered (codes " file execute /p") program ++ execute_attributes program)

-- the permission of an access, and the folder of its file
abbrev pub access_words : ℕ → Text
access_words access =
    if access == 0 then codes " file read /tmp/" else (if access == 1 then codes " file write /var/" else codes " file getattr /etc/")

-- the line by which a tree makes this access to the file with this number
abbrev pub access_line : ℕ → ℕ → ℕ → Text
access_line tree access file = numbered (codes "do ") tree ++ (numbered (access_words access) file ++ codes "\n")

-- the record at a place, from 0, in this state: one draw says which program is executed, or one
-- which access is made and a second one to which file
abbrev pub record_line : ℕ → ℕ → ℕ → Text
record_line tree place state =
    if place % 10 == 0 then execute_line tree (drawn 8 state) else access_line tree (drawn 3 state) (drawn 1000 (next_state state))

-- the state after its draws
abbrev pub state_after : ℕ → ℕ → ℕ
state_after place state = if place % 10 == 0 then next_state state else next_state (next_state state)

-- the state before the record at a place of a tree that begins in this state
unfoldable pub state_before : ℕ → ℕ → ℕ
state_before start zero = start
state_before start (suc place) = state_after place (state_before start place)

-- so many first records of a tree that begins in this state
unfoldable pub records : ℕ → ℕ → ℕ → Text
records tree start zero = []
records tree start (suc place) = records tree start place ++ record_line tree place (state_before start place)

-- the line that begins a tree
abbrev pub tree_line : ℕ → Text
tree_line tree = numbered (codes "tree ") tree ++ codes " <kernel>\n"

-- a tree that begins in this state
abbrev pub tree_text : ℕ → ℕ → Text
tree_text tree state = tree_line tree ++ records tree state 40

-- the state after so many trees, which begin in the state that is the seed
unfoldable pub state_of : ℕ → ℕ → ℕ
state_of seed zero = seed
state_of seed (suc trees) = state_before (state_of seed trees) 40

-- the trace of so many trees, which are numbered from 1
unfoldable pub trace_text : ℕ → ℕ → Text
trace_text seed zero = []
trace_text seed (suc trees) = trace_text seed trees ++ tree_text (suc trees) (state_of seed trees)
