-- Document 01, "Calls and what they turn down": the numbers of the refusals, and the first that applies to a call, 0 for none.
use Rattle.std.specs.Prelude.{ℕ, zero, suc, ◌+◌, ◌*◌, Bool, true, false, not, ◌&&◌, ◌||◌, List, [], ◌∷◌, ℤ, pos, negsuc, ◌+ℤ◌, length, leb, ltb, eqb, Result, Ok, Err}
use Rattle.model.specs.declared.Tear.{Tear}
use Rattle.model.specs.declared.Settings.{Settings}
use Rattle.model.specs.declared.Block.{Block}
use Rattle.model.specs.declared.Refusal.{Refusal}
use Rattle.model.specs.declared.Split.TheVariants.{Line, Mask}
use Rattle.model.specs.declared.Candidate.{Candidate}
use Rattle.model.specs.declared.Candidate.TheVariants.{Full, Flat, Regions}
use Rattle.model.specs.Row.{greatest}
use Rattle.model.specs.Marks.{mark_bytes}
use Rattle.model.specs.Combined.{worst}
use Rattle.model.specs.Planes as planes
use Rattle.model.specs.Planes.{Pictures, Depths, Held, Strip, area}
use Rattle.model.specs.Candidates.{positions, line_ok}
use Rattle.model.specs.Journals.{newest, index_before, record_view, record_block, record_depths, record_size, record_end, next_index}

-- the number of a refusal
abbrev pub number_of : Refusal → ℕ
number_of Refusal.Size = 1
number_of Refusal.Plane = 2
number_of Refusal.Table = 3
number_of Refusal.Share = 4
number_of Refusal.Bounds = 5
number_of Refusal.View = 6
number_of Refusal.Candidate = 7
number_of Refusal.Total = 8
number_of Refusal.JournalFull = 11
number_of Refusal.NothingToTakeBack = 12
number_of Refusal.Journal = 13
number_of Refusal.Line = 14
number_of Refusal.Mask = 15
number_of Refusal.Gap = 20
number_of Refusal.Sample = 21

-- the number of an answer, 0 where the call is accepted
abbrev pub answer_number : {A : Type 0} → Result A Refusal → ℕ
answer_number (Ok x) = 0
answer_number (Err r) = number_of r

-- number k where the test fails, else the rest of the list
abbrev pub unless : Bool → ℕ → ℕ → ℕ
unless true k rest = rest
unless false k rest = k

-- 1: w or h outside 1 to 4,096
unfoldable pub side_ok : ℕ → Bool
side_ok n = leb 1 n && leb n 4096

unfoldable pub size_ok : Settings → Bool
size_ok s = side_ok s.w && side_ok s.h

-- 2: a plane without its exact length
unfoldable pub pictures_sized : ℕ → Pictures → Bool
pictures_sized n p = eqb (length p.left) n && (eqb (length p.right) n && eqb (length p.reference) n)

unfoldable pub depths_sized : ℕ → Depths → Bool
depths_sized n d = eqb (length d.left) n && eqb (length d.right) n

unfoldable pub view_sized : ℕ → ℕ → planes.View → Bool
view_sized n m v =
    eqb (length v.samples) n && (eqb (length v.fronts) n && (eqb (length v.limits) n && eqb (length v.marks) m))

unfoldable pub held_sized : ℕ → ℕ → Held → Bool
held_sized n m h = view_sized n m h.left && (view_sized n m h.right && eqb (length h.combined) n)

unfoldable pub planes_sized : Settings → Pictures → Depths → Held → Bool
planes_sized s p d h =
    pictures_sized (area s) p && (depths_sized (area s) d && held_sized (area s) (mark_bytes s.w * s.h) h)

-- no entry is above `most`
unfoldable pub up_to : ℕ → List ℕ → Bool
up_to most [] = true
up_to most (x ∷ xs) = leb x most && up_to most xs

-- 3: an entry of either table above 1,023
abbrev pub table_ok : List ℕ → Bool
table_ok t = up_to 1023 t

unfoldable pub tables_ok : Settings → Bool
tables_ok s = table_ok s.left && table_ok s.right

-- 4: share above 64
abbrev pub share_ok : Settings → Bool
share_ok s = leb s.share 64

-- 20: the widest gap outside 4 to 64, or the distance above 3
unfoldable pub tear_ok : Tear → Bool
tear_ok e = (leb 4 e.gap && leb e.gap 64) && leb e.distance 3

-- 5: block of zero width or height, or reaching past an edge
unfoldable pub block_ok : Settings → Block → Bool
block_ok s b =
    (leb 1 b.width && leb (b.column + b.width) s.w) && (leb 1 b.height && leb (b.row + b.height) s.h)

-- 6: view neither 0 nor 1
abbrev pub view_ok : ℕ → Bool
view_ok v = leb v 1

-- 7: a full block's bytes other than width × height; 14: a line's point inside or outside the border, or a shared side; 15: mask bytes other than
-- (area + 7) div 8; one value has no number of its own. n is the number of bytes lent.
unfoldable pub candidate_then : Block → Candidate → ℕ → ℕ → ℕ
candidate_then b Full n rest = unless (eqb n (positions b)) 7 rest
candidate_then b (Flat depth) n rest = rest
candidate_then b (Regions value0 value1 (Line start end)) n rest = unless (line_ok b start end) 14 rest
candidate_then b (Regions value0 value1 Mask) n rest = unless (eqb n (mark_bytes (positions b))) 15 rest

-- 8: held total plus change below 0 or above 1,046,529 × w × h
abbrev pub within : ℤ → ℕ → Bool
within (pos n) most = leb n most
within (negsuc n) most = false

unfoldable pub in_range : Settings → ℤ → Bool
in_range s change = within (pos s.total +ℤ change) (worst * area s)

-- 13: a journal of no words
abbrev pub words_ok : List ℕ → Bool
words_ok j = ltb 0 (length j)

-- 13: a record past the end, a view above 1, its block empty or past an edge, or a depth above 255
unfoldable pub record_ok : Settings → List ℕ → ℕ → Bool
record_ok s j i =
    leb (record_end j i) (length j) && (view_ok (record_view j i) && (block_ok s (record_block j i) && up_to 255 (record_depths j i)))

-- 13: a chain that doesn't fall to zero. It stands at index i; each further index is below the one before, so that n steps are enough where i is at most n.
unfoldable pub chain_ok : Settings → List ℕ → ℕ → ℕ → Bool
chain_ok s j zero i = eqb i 0
chain_ok s j (suc n) i = eqb i 0 || (record_ok s j i && (ltb (index_before j i) i && chain_ok s j n (index_before j i)))

unfoldable pub journal_ok : Settings → List ℕ → Bool
journal_ok s j = words_ok j && chain_ok s j (newest j) (newest j)

-- 11: the words beyond the newest record can't hold the new one, or its index passes 32 bits
unfoldable pub room_ok : Block → List ℕ → Bool
room_ok b j = leb (next_index j + record_size b) (length j) && ltb (next_index j) 4294967296

-- 12: nothing to take back
abbrev pub some_record : List ℕ → Bool
some_record j = not (eqb (newest j) 0)

-- 21: an entry of a texture or of the reference above 1,023
abbrev pub picture_ok : List ℕ → Bool
picture_ok p = up_to greatest p

unfoldable pub pictures_ok : Pictures → Bool
pictures_ok p = picture_ok p.left && (picture_ok p.right && picture_ok p.reference)

-- 1, 2, 3, 4, 20, then the rest of the call's list
unfoldable pub common_then : Settings → Pictures → Depths → Held → ℕ → ℕ
common_then s p d h rest =
    unless (size_ok s) 1 (unless (planes_sized s p d h) 2 (unless (tables_ok s) 3 (unless (share_ok s) 4 (unless (tear_ok s.tear) 20 rest))))

-- 6, 5, the candidate's own number, then the rest; n is the number of bytes lent with the candidate
unfoldable pub own_then : Settings → ℕ → Block → Candidate → ℕ → ℕ → ℕ
own_then s v b c n rest = unless (view_ok v) 6 (unless (block_ok s b) 5 (candidate_then b c n rest))

-- 13, then 11: what SET tests of the journal for block b
unfoldable pub saving_then : Settings → Block → List ℕ → ℕ → ℕ
saving_then s b j rest = unless (journal_ok s j) 13 (unless (room_ok b j) 11 rest)

-- 13, then 12: what TAKE BACK tests of it
unfoldable pub taking_then : Settings → List ℕ → ℕ → ℕ
taking_then s j rest = unless (journal_ok s j) 13 (unless (some_record j) 12 rest)

-- OPEN refuses 1, 2, 3, 4, 20, 13 for a journal of no words, then 21; MOVE the same, judged with its settings and its reference.
abbrev pub open_number : Settings → Pictures → Depths → Held → List ℕ → ℕ
open_number s p d h j = common_then s p d h (unless (words_ok j) 13 (unless (pictures_ok p) 21 0))

-- CHECK refuses 1, 2, 3, 4, 20.
abbrev pub check_number : Settings → Pictures → Depths → Held → ℕ
check_number s p d h = common_then s p d h 0

-- GET and SET refuse 1, 2, 3, 4, 20, 6, 5, by the candidate's kind 7, 14 or 15, then 8, which is judged by the change that was found; SET has the rest of its list.
abbrev pub call_then : Settings → Pictures → Depths → Held → ℕ → Block → Candidate → ℕ → ℤ → ℕ → ℕ
call_then s p d h v b c n change rest = common_then s p d h (own_then s v b c n (unless (in_range s change) 8 rest))

abbrev pub call_number : Settings → Pictures → Depths → Held → ℕ → Block → Candidate → ℕ → ℤ → ℕ
call_number s p d h v b c n change = call_then s p d h v b c n change 0

-- SET has 8, 13, 11 at its end.
abbrev pub set_number : Settings → Pictures → Depths → Held → List ℕ → ℕ → Block → Candidate → ℕ → ℤ → ℕ
set_number s p d h j v b c n change = call_then s p d h v b c n change (saving_then s b j 0)

-- what both refuse before 8
abbrev pub early_number : Settings → Pictures → Depths → Held → ℕ → Block → Candidate → ℕ → ℕ
early_number s p d h v b c n = common_then s p d h (own_then s v b c n 0)

-- TAKE BACK refuses 1, 2, 3, 4, 20, 13, 12, then 8, and before 8 the same.
abbrev pub take_back_number : Settings → Pictures → Depths → Held → List ℕ → ℤ → ℕ
take_back_number s p d h j change = common_then s p d h (taking_then s j (unless (in_range s change) 8 0))

abbrev pub take_back_early : Settings → Pictures → Depths → Held → List ℕ → ℕ
take_back_early s p d h j = common_then s p d h (taking_then s j 0)

-- RENDER refuses 1, 2, 3, 20, then 6; h is not tested.
unfoldable pub strip_sized : ℕ → List ℕ → List ℕ → Strip → Bool
strip_sized w texture depths x =
    (eqb (length texture) w && eqb (length depths) w)
    && (eqb (length x.samples) w && (eqb (length x.marks) (mark_bytes w) && eqb (length x.fronts) w))

unfoldable pub render_number : Settings → ℕ → List ℕ → List ℕ → Strip → ℕ
render_number s v texture depths x =
    unless (side_ok s.w) 1
    (unless (strip_sized s.w texture depths x) 2 (unless (tables_ok s) 3 (unless (tear_ok s.tear) 20 (unless (view_ok v) 6 0))))

-- HOLES refuses 1, 2, then 6.
unfoldable pub holes_number : Settings → ℕ → List ℕ → List ℕ → ℕ
holes_number s v left right =
    unless (size_ok s) 1
    (unless (eqb (length left) (mark_bytes s.w * s.h) && eqb (length right) (mark_bytes s.w * s.h)) 2 (unless (view_ok v) 6 0))
