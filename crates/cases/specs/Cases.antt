-- Document 01, "Small rows and sessions": cases a to m, in one table; d, e, f, k and m as document 02, card 2, has them, and cases of cards 3, 6
-- and 7. Another table has those of card 11.
use Rattle.std.specs.Prelude.{ℕ, Bool, true, false, not, ◌&&◌, List, [], ◌∷◌, eqb, ℤ, pos}
use Prim.Native.String.{String}
use Rattle.std.specs.Int.Signed.{le_z}
use Rattle.model.specs.declared.Tear.{Tear}
use Rattle.model.specs.declared.Settings.{Settings}
use Rattle.model.specs.declared.Block.{Block}
use Rattle.model.specs.declared.Split.{Split}
use Rattle.model.specs.declared.Split.TheVariants.{Line, Mask}
use Rattle.model.specs.declared.Candidate.{Candidate}
use Rattle.model.specs.declared.Candidate.TheVariants.{Full, Flat, Regions}
use Rattle.model.specs.Lists.{list_of, rows}
use Rattle.model.specs.Row.{line, neg, pixel}
use Rattle.model.specs.Views.{view_row}
use Rattle.model.specs.Combined.{combined_of}
use Rattle.model.specs.Planes.{Pictures, Depths, pictures, depths}
use Rattle.model.specs.Refusals.{journal_ok}
use Rattle.run.specs.Run.{Call, Plain, plain, plain_next, plain_reply}
use Rattle.run.specs.Run.Call.{get, set, move}
use Rattle.run.specs.Shared.{SharedCall, SharedPlain, opened, stands_as, plain_total, shared_next, shared_reply}

-- a call of a session and the change that it has to answer
pub record Step : Type 0 where
  pub call : Call
  pub change : ℤ

-- a call of a session with one journal; the number and change that it has to answer, and the total and the journal's words that it leaves
pub record SharedStep : Type 0 where
  pub call : SharedCall
  pub number : ℕ
  pub change : ℤ
  pub total : ℕ
  pub words : List ℕ

-- A row of a view, where it tears, with its samples and marks; a combined sample; a session's rows and calls with its last total; a session with one
-- journal; or a journal.
pub data Case : Type 0 where
  torn : String → Tear → Bool → List ℕ → List ℕ → List ℕ → List ℕ → Case
  mix : String → ℕ → ℕ → ℕ → ℕ → ℕ → ℕ → ℕ → Case
  session : String → ℕ → List Step → ℕ → Case
  journaled : String → List ℕ → List SharedStep → Case
  journal : String → List ℕ → Bool → Case

-- Document 02, card 11: the widest smooth gap and the nearest torn distance, 8 and 1 in document 01's cases.
abbrev pub tear : ℕ → ℕ → Tear
tear gap distance = record { gap = gap; distance = distance }

abbrev pub usual : Tear
usual = tear 8 1

abbrev row : String → Bool → List ℕ → List ℕ → List ℕ → List ℕ → Case
row name = torn name usual

-- Table: entry d is d. Texture 10 20 30 40 unless said.
unfoldable pub identity : List ℕ
identity = list_of (λ d. d) 256

unfoldable pub four : List ℕ
four = 10 ∷ 20 ∷ 30 ∷ 40 ∷ []

abbrev zeros : List ℕ
zeros = 0 ∷ 0 ∷ 0 ∷ 0 ∷ []

-- h rows, each with both textures as above, depths 0 and reference 10 20 30 40; share 0, tolerance 255
unfoldable pub settings : ℕ → Settings
settings h = record { w = 4; h = h; left = identity; right = identity; share = 0; tolerance = 255; tear = usual; total = 0 }

unfoldable pub opening : ℕ → Depths
opening h = depths (rows (λ y. zeros) h) (rows (λ y. zeros) h)

unfoldable pub images : ℕ → Pictures
images h = pictures (rows (λ y. four) h) (rows (λ y. four) h) (rows (λ y. four) h)

-- the plain record of an OPEN with all this
abbrev start : ℕ → Plain
start h = plain (settings h) (images h) (opening h)

-- what MOVE is passed: left table, share, tolerance and the two numbers; w, h and total do not count
abbrev seat : List ℕ → ℕ → ℕ → Tear → Settings
seat table share tolerance e =
    record { w = 0; h = 0; left = table; right = identity; share = share; tolerance = tolerance; tear = e; total = 9 }

-- as at OPEN, but for the numbers
abbrev tearing : Tear → Settings
tearing = seat identity 0 255

-- words of a journal that no record has
abbrev pub junk : ℕ → List ℕ
junk n = list_of (λ i. 9) n

-- left view: block, candidate, bytes lent with it, change; a SET has a journal with room for one record of four depths
abbrev tried : Block → Candidate → List ℕ → ℤ → Step
tried b c x change = record { call = get 0 b c x; change = change }

abbrev wrote : Block → Candidate → List ℕ → ℤ → Step
wrote b c x change = record { call = set 0 b c x (0 ∷ junk 10); change = change }

-- one column
abbrev only : ℕ → Block
only column = record { column = column; row = 0; width = 1; height = 1 }

abbrev GET : ℕ → ℕ → ℤ → Step
GET column depth change = tried (only column) Full (depth ∷ []) change

abbrev SET : ℕ → ℕ → ℤ → Step
SET column depth change = wrote (only column) Full (depth ∷ []) change

abbrev MOVE : Settings → List ℕ → Step
MOVE to reference = record { call = move to reference (0 ∷ []); change = pos 0 }

-- the same with one journal: a SET of column 2 in the left view, TAKE BACK and MOVE; number, change, total and words
abbrev SETS : ℕ → ℕ → ℤ → ℕ → List ℕ → SharedStep
SETS depth number change total words =
    record { call = SharedCall.set 0 (only 2) Full (depth ∷ []); number = number; change = change; total = total; words = words }

abbrev BACK : ℕ → ℤ → ℕ → List ℕ → SharedStep
BACK number change total words = record { call = SharedCall.take_back; number = number; change = change; total = total; words = words }

abbrev MOVES : Tear → List ℕ → ℕ → ℕ → List ℕ → SharedStep
MOVES e reference number total words =
    record { call = SharedCall.move (tearing e) reference; number = number; change = pos 0; total = total; words = words }

-- a record of column 2 in the left view: index of the one before, old depth, the words that follow
abbrev pub saves : ℕ → ℕ → List ℕ → List ℕ
saves before old words = before ∷ 0 ∷ 2 ∷ 0 ∷ 1 ∷ 1 ∷ old ∷ words

-- the whole row, and the last two columns of two rows
abbrev whole : Block
whole = record { column = 0; row = 0; width = 4; height = 1 }

abbrev square : Block
square = record { column = 2; row = 0; width = 2; height = 2 }

-- the line between the corners (0, 0) and (1, 1)
abbrev falling : Split
falling = Line (record { column = 0; row = 0 }) (record { column = 1; row = 1 })

abbrev reversed : Split
reversed = Line (record { column = 1; row = 1 }) (record { column = 0; row = 0 })

-- row: view, texture, depths, samples, marks; torn: the numbers before these; mix: share, tolerance, left and right depth, left and right sample, combined;
-- session: rows, calls with their changes, the total at the end; journaled: the words lent to OPEN, calls with what they answer and leave; journal: words,
-- and whether 13 leaves them alone
unfoldable pub cases : List Case
cases =
    row "a" false (50 ∷ []) (0 ∷ []) (50 ∷ []) (0 ∷ [])
    ∷ row "b" false (50 ∷ []) (4 ∷ []) (50 ∷ []) (1 ∷ [])
    ∷ row "c" false four (0 ∷ 0 ∷ 0 ∷ 0 ∷ []) (10 ∷ 20 ∷ 30 ∷ 40 ∷ []) (0 ∷ 0 ∷ 0 ∷ 0 ∷ [])
    ∷ row "d" false four (2 ∷ 2 ∷ 2 ∷ 2 ∷ []) (14 ∷ 25 ∷ 36 ∷ 40 ∷ []) (0 ∷ 0 ∷ 0 ∷ 1 ∷ [])
    ∷ row "e" true four (2 ∷ 2 ∷ 2 ∷ 2 ∷ []) (10 ∷ 14 ∷ 25 ∷ 36 ∷ []) (1 ∷ 0 ∷ 0 ∷ 0 ∷ [])
    ∷ row "f" false four (0 ∷ 0 ∷ 4 ∷ 0 ∷ []) (10 ∷ 30 ∷ 36 ∷ 40 ∷ []) (0 ∷ 0 ∷ 0 ∷ 0 ∷ [])
    ∷ row "g" false four (0 ∷ 0 ∷ 5 ∷ 0 ∷ []) (10 ∷ 30 ∷ 40 ∷ 40 ∷ []) (0 ∷ 0 ∷ 1 ∷ 0 ∷ [])
    ∷ mix "h" 32 0 7 7 10 21 16
    ∷ mix "i" 32 0 7 7 10 20 15
    ∷ mix "j, mixed" 32 3 8 5 10 20 15
    ∷ mix "j, left" 32 3 9 5 10 20 10
    ∷ session "total 0" 1 [] 0
    ∷ session "k" 1 (GET 2 4 (pos 136) ∷ []) 0
    ∷ session "l" 1 (GET 2 5 (pos 100) ∷ []) 0
    ∷ session "m" 1 (SET 2 4 (pos 136) ∷ GET 2 5 (neg 36) ∷ SET 2 0 (neg 136) ∷ []) 0
    ∷ session "card 6, one value" 1 (tried (only 2) (Flat 4) [] (pos 136) ∷ []) 0
    ∷ session "card 6, a mask with spare bits" 1 (tried whole (Regions 0 4 Mask) (244 ∷ []) (pos 136) ∷ []) 0
    ∷ session "card 6, a line and its reverse" 2
    (tried square (Regions 0 4 falling) [] (pos 136) ∷ wrote square (Regions 0 4 reversed) [] (pos 100) ∷ tried square (Flat 0) [] (neg 100) ∷ [])
    100
    ∷ row "card 7" false four (0 ∷ 0 ∷ 7 ∷ 0 ∷ []) (30 ∷ 40 ∷ 40 ∷ 40 ∷ []) (0 ∷ 1 ∷ 1 ∷ 0 ∷ [])
    ∷ row "card 7, right view" true four (0 ∷ 7 ∷ 0 ∷ 0 ∷ []) (10 ∷ 10 ∷ 10 ∷ 20 ∷ []) (0 ∷ 1 ∷ 1 ∷ 0 ∷ [])
    ∷ session "card 7, an edge two columns right of the block" 1 (SET 3 11 (pos 900) ∷ SET 1 3 (neg 900) ∷ GET 1 0 (pos 900) ∷ []) 0
    ∷ journaled "card 3" (junk 16)
    (SETS 4 0 (pos 136) 136 (1 ∷ saves 0 0 (junk 8))
    ∷ SETS 5 0 (neg 36) 100 (8 ∷ saves 0 0 (saves 1 4 (junk 1)))
    ∷ BACK 0 (pos 36) 136 (1 ∷ saves 0 0 (saves 1 4 (junk 1)))
    ∷ BACK 0 (neg 136) 0 (0 ∷ saves 0 0 (saves 1 4 (junk 1)))
    ∷ BACK 12 (pos 0) 0 (0 ∷ saves 0 0 (saves 1 4 (junk 1)))
    ∷ SETS 5 0 (pos 100) 100 (1 ∷ saves 0 0 (saves 1 4 (junk 1)))
    ∷ [])
    ∷ journaled "card 3, a word short" (junk 14)
    (SETS 4 0 (pos 136) 136 (1 ∷ saves 0 0 (junk 6))
    ∷ SETS 5 11 (pos 0) 136 (1 ∷ saves 0 0 (junk 6))
    ∷ BACK 0 (neg 136) 0 (0 ∷ saves 0 0 (junk 6))
    ∷ [])
    ∷ journal "no words" [] false
    ∷ journal "no record" (0 ∷ junk 1) true
    ∷ journal "one record" (1 ∷ saves 0 4 []) true
    ∷ journal "a gap before a record" (3 ∷ 9 ∷ 9 ∷ saves 0 4 []) true
    ∷ journal "overlapping records" (8 ∷ 0 ∷ 0 ∷ 0 ∷ 0 ∷ 4 ∷ 1 ∷ 7 ∷ saves 1 4 []) true
    ∷ journal "junk beyond the newest record" (1 ∷ saves 0 4 (junk 2)) true
    ∷ journal "a chain that stands still" (1 ∷ saves 1 4 []) false
    ∷ journal "a chain that rises" (1 ∷ saves 8 4 (saves 0 4 [])) false
    ∷ journal "a record past the end" (1 ∷ 0 ∷ 0 ∷ 2 ∷ 0 ∷ 1 ∷ 1 ∷ []) false
    ∷ journal "an empty block" (1 ∷ 0 ∷ 0 ∷ 2 ∷ 0 ∷ 0 ∷ 1 ∷ []) false
    ∷ journal "a block past an edge" (1 ∷ 0 ∷ 0 ∷ 3 ∷ 0 ∷ 2 ∷ 1 ∷ 4 ∷ 4 ∷ []) false
    ∷ journal "view 2" (1 ∷ 0 ∷ 2 ∷ 2 ∷ 0 ∷ 1 ∷ 1 ∷ 4 ∷ []) false
    ∷ journal "depth 256" (1 ∷ saves 0 256 []) false
    ∷ journal "depth 256 in the record before" (8 ∷ saves 0 256 (saves 1 4 [])) false
    ∷ []

-- the same for card 11
unfoldable pub card11 : List Case
card11 =
    torn "g within the widest gap" (tear 9 1) false four (0 ∷ 0 ∷ 5 ∷ 0 ∷ []) (10 ∷ 30 ∷ 36 ∷ 40 ∷ []) (0 ∷ 0 ∷ 0 ∷ 0 ∷ [])
    ∷ torn "the widest gap 64" (tear 64 1) false (10 ∷ 20 ∷ []) (62 ∷ 2 ∷ []) (20 ∷ 20 ∷ []) (0 ∷ 1 ∷ [])
    ∷ torn "a gap of 5 torn" (tear 4 1) false four (0 ∷ 0 ∷ 1 ∷ 0 ∷ []) (10 ∷ 20 ∷ 30 ∷ 40 ∷ []) (0 ∷ 0 ∷ 0 ∷ 0 ∷ [])
    ∷ torn "distance 0" (tear 4 0) false four (0 ∷ 0 ∷ 1 ∷ 0 ∷ []) (10 ∷ 20 ∷ 40 ∷ 40 ∷ []) (0 ∷ 0 ∷ 1 ∷ 0 ∷ [])
    ∷ torn "distance 3" (tear 8 3) false four (0 ∷ 0 ∷ 7 ∷ 0 ∷ []) (30 ∷ 30 ∷ 40 ∷ 40 ∷ []) (0 ∷ 0 ∷ 1 ∷ 0 ∷ [])
    ∷ torn "distance 0 in the last column" (tear 8 0) false (50 ∷ []) (1 ∷ []) (50 ∷ []) (1 ∷ [])
    ∷ torn "distance 3 in the last column" (tear 8 3) false (50 ∷ []) (3 ∷ []) (50 ∷ []) (0 ∷ [])
    ∷ torn "t of 4 in the last column" (tear 8 3) false (50 ∷ []) (4 ∷ []) (50 ∷ []) (1 ∷ [])
    ∷ torn "e with distance 3" (tear 8 3) true four (2 ∷ 2 ∷ 2 ∷ 2 ∷ []) (10 ∷ 14 ∷ 25 ∷ 36 ∷ []) (0 ∷ 0 ∷ 0 ∷ 0 ∷ [])
    ∷ journaled "refused moves and an accepted one" (junk 16)
    (SETS 5 0 (pos 100) 100 (1 ∷ saves 0 0 (junk 8))
    ∷ MOVES (tear 65 1) four 20 100 (1 ∷ saves 0 0 (junk 8))
    ∷ MOVES (tear 64 1) (10 ∷ []) 2 100 (1 ∷ saves 0 0 (junk 8))
    ∷ BACK 0 (neg 100) 0 (0 ∷ saves 0 0 (junk 8))
    ∷ SETS 5 0 (pos 100) 100 (1 ∷ saves 0 0 (junk 8))
    ∷ MOVES (tear 64 1) four 0 136 (0 ∷ saves 0 0 (junk 8))
    ∷ BACK 12 (pos 0) 136 (0 ∷ saves 0 0 (junk 8))
    ∷ SETS 0 0 (neg 136) 0 (1 ∷ saves 0 5 (junk 8))
    ∷ BACK 0 (pos 136) 136 (0 ∷ saves 0 5 (junk 8))
    ∷ [])
    ∷ session "gap and reference" 1
    (SET 2 5 (pos 100) ∷ MOVE (tearing (tear 64 1)) four ∷ GET 2 0 (neg 136) ∷ MOVE (tearing (tear 64 1)) (10 ∷ 30 ∷ 36 ∷ 40 ∷ []) ∷ GET 2 0 (pos 136) ∷ []) 0
    ∷ session "table, share and tolerance" 1
    (SET 2 4 (pos 136)
    ∷ MOVE (seat (list_of (λ d. 0) 256) 0 255 usual) four
    ∷ GET 2 0 (pos 0)
    ∷ MOVE (seat identity 64 255 usual) four
    ∷ GET 2 0 (pos 0)
    ∷ MOVE (seat identity 64 0 usual) four
    ∷ GET 2 0 (neg 136)
    ∷ [])
    136
    ∷ []

-- ---- the test

unfoldable pub same : List ℕ → List ℕ → Bool
same [] [] = true
same [] (y ∷ ys) = false
same (x ∷ xs) [] = false
same (x ∷ xs) (y ∷ ys) = eqb x y && same xs ys

abbrev same_change : ℤ → ℤ → Bool
same_change a b = le_z a b && le_z b a

-- the calls are accepted and answer these changes, and the plain record ends with this total
unfoldable pub holds_from : Plain → List Step → ℕ → Bool
holds_from r [] total = eqb (plain_total r) total
holds_from r (k ∷ ks) total =
    (eqb (plain_reply r k.call).number 0 && same_change (plain_reply r k.call).change k.change) && holds_from (plain_next r k.call) ks total

-- each call answers its number and change, and leaves its total and words
unfoldable pub shared_holds_from : SharedPlain → List SharedStep → Bool
shared_holds_from r [] = true
shared_holds_from r (k ∷ ks) =
    let reply = shared_reply r k.call in
    let next = shared_next r k.call in
    (eqb reply.number k.number && same_change reply.change k.change)
    && (eqb (plain_total (stands_as next)) k.total && same next.journal k.words)
    && shared_holds_from next ks

abbrev agree : Bool → Bool → Bool
agree true b = b
agree false b = not b

unfoldable pub holds : Case → Bool
holds (torn name e right texture depths samples marks) =
    same (view_row right (line e identity texture depths)).samples samples && same (view_row right (line e identity texture depths)).marks marks
holds (mix name share tolerance ld rd ls rs combined) = eqb (combined_of share tolerance (pixel ls 0 ld) (pixel rs 0 rd)) combined
holds (session name h steps total) = holds_from (start h) steps total
holds (journaled name words steps) = shared_holds_from (opened (start 1) words) steps
holds (journal name words sound) = agree (journal_ok (settings 1) words) sound

unfoldable pub all_hold : List Case → Bool
all_hold [] = true
all_hold (c ∷ cs) = holds c && all_hold cs
