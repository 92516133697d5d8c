-- The bytes on a page, and the room that is left on it. Assumes nothing.
use Rattle.std.specs.Prelude.{ℕ, ◌+◌, ◌≤◌, List, length}
use Rattle.swimlog.specs.Rooms.{page_length}
use Rattle.swimlog.specs.declared.page.Page.{Page}

-- what was put on a page, from its start
abbrev pub page_bytes : Page → List ℕ
page_bytes p = p.bytes.items

-- there is room for so many bytes after that
abbrev pub Spare : Page → (count : ℕ) → Type 0
Spare p count = length (page_bytes p) + count ≤ page_length

-- and for these
abbrev pub Room : Page → (more : List ℕ) → Type 0
Room p more = Spare p (length more)
