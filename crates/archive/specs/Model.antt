-- The archive as a model, a home network and the PDUs held; its bytes; and its limits (document 01, "The archive").
use Rattle.std.specs.Prelude.{Bool, ◌&&◌, List, [], ◌∷◌, ◌++◌, ℕ, ◌+◌, ◌*◌, ◌/◌, ◌%◌, ◌<◌, length, ltb, leb}
use Rattle.bits.specs.Frame.{bytes_for}
use Rattle.archive.specs.declared.contents.Key.{Key}
use Rattle.archive.specs.declared.contents.Entry.{Entry}

-- a PDU that is held: its contents entry and its body
pub record Held : Type 0 where
  pub entry : Entry
  pub body : List ℕ

pub record Archive : Type 0 where
  pub home : ℕ
  pub held : List Held

-- entries rise by network, then SSI, then part: by this one number of their keys
abbrev pub rank_of : Key → ℕ
rank_of k = k.network * 4294967296 + k.ssi * 256 + k.part

abbrev pub rank : Held → ℕ
rank h = rank_of h.entry.key

-- network and SSI below 16,777,216, part 1 or 2
unfoldable pub in_range : Key → Bool
in_range k = ltb k.network 16777216 && (ltb k.ssi 16777216 && (leb 1 k.part && leb k.part 2))

-- a day, of whatever beginning, below 65,536
abbrev pub is_day : ℕ → Bool
is_day day = ltb day 65536

-- entries that rise strictly, from above a rank on: no user and part stands twice
pub data Rising : ℕ → List Held → Type 0 where
  no_key : {last : ℕ} → Rising last []
  next-key : {last : ℕ} {h : Held} {hs : List Held} → last < rank h → Rising (rank h) hs → Rising last (h ∷ hs)

-- ---- bytes, the most significant of a number first

abbrev pub header_width : ℕ
header_width = 5

abbrev pub entry_width : ℕ
entry_width = 11

abbrev pub bytes2 : ℕ → List ℕ
bytes2 x = x / 256 ∷ x % 256 ∷ []

abbrev pub bytes3 : ℕ → List ℕ
bytes3 x = x / 65536 ∷ x / 256 % 256 ∷ x % 256 ∷ []

-- home network and entry count
unfoldable pub header_bytes : ℕ → ℕ → List ℕ
header_bytes home count = bytes3 home ++ bytes2 count

-- network, SSI, part, bit length, day
unfoldable pub entry_bytes : Entry → List ℕ
entry_bytes e = bytes3 e.key.network ++ (bytes3 e.key.ssi ++ (e.key.part ∷ (bytes2 e.bits.0 ++ bytes2 e.day)))

abbrev pub contents_of : List Held → List ℕ
contents_of [] = []
contents_of (h ∷ hs) = entry_bytes h.entry ++ contents_of hs

abbrev pub bodies_of : List Held → List ℕ
bodies_of [] = []
bodies_of (h ∷ hs) = h.body ++ bodies_of hs

-- header, contents, bodies in contents order, nothing between or after
abbrev pub bytes_of : Archive → List ℕ
bytes_of a = header_bytes a.home (length a.held) ++ (contents_of a.held ++ bodies_of a.held)

-- ---- lengths

abbrev pub body_size : Held → ℕ
body_size h = bytes_for h.entry.bits.0

abbrev pub sizes : List Held → ℕ
sizes [] = 0
sizes (h ∷ hs) = body_size h + sizes hs

abbrev pub length_of : Archive → ℕ
length_of a = header_width + entry_width * length a.held + sizes a.held

-- at most 512 entries and 65,536 bytes
abbrev pub within_limits : ℕ → ℕ → Bool
within_limits count size = leb count 512 && leb size 65536
