-- What is claimed of cuts in books built by calls: document 01, "Edges and route", with the words and frequencies of the ledger; and of search words in
-- every book. A block is given by its characters, and positions are counted from its start. `cut_block` and `search_block` (`cuts/specs/Cuts.antt`) are
-- what the public cuts do with a block of their class; `GoesByRows` ties them to the rows and routes of which the claims speak.
-- Proofs: `proofs/Routes.antt`, `proofs/Ties.antt`, `proofs/Sentences.antt`, `proofs/SearchWords.antt`.
-- Assumes nothing.
use Rattle.std.specs.Prelude.{ℕ, ◌+◌, ◌≤◌, ◌<◌, Bool, true, false, cond, ◌≢◌, ◌≡◌, eqb, leb, length, get_or, take, drop, Ok, Err, Some, None}
use mathlib.Core.List.{List, [], ◌∷◌, map, Memᴰ}
use Rattle.std.proofs.Math.Option.{some}
use Rattle.std.specs.Float.{nan}
use Rattle.utf8.specs.Encoding.{Scalars}
use Rattle.utf8.specs.Text.{chars_of}
use Rattle.trie.specs.Trie.{get_of, WordNumber, damage}
use Rattle.score.specs.Scores.{Held}
use Rattle.score.specs.Logarithm.{log_float}
use Rattle.book.specs.declared.Refusal.TheVariants.{EdgesFull}
use Rattle.book.specs.Returns.{Book, longest_text}
use Rattle.book.specs.Prefixes.{Edge, Walked, words_from}
use Rattle.built.specs.Ledger.{Entry, frequency_in}
use Rattle.built.specs.Calls.{BuiltByCalls}
use Rattle.route.specs.Route.{route_of}
use Rattle.route.specs.Slices.{nowhere}
use Rattle.best_route.specs.Paths.{Word, edges_of, unreached, as_float, score_route}
use Rattle.best_route.specs.Paths as Paths
use Rattle.best_route.specs.Claims.{BestFrom, Rising}
use Rattle.best_route.specs.Ties.{FixedChoice, Finite}
use Rattle.cuts.specs.Blocks as Blocks
use Rattle.cuts.specs.Blocks.{blocks_of}
use Rattle.cuts.specs.Edges.{vocabulary_of, walks_of, edges, stopped, edges_within}
use Rattle.cuts.specs.Tokens.{Span, span, steps_from, cut_route, any_of, held_between, searched, Base, Written}
use Rattle.cuts.specs.Cuts.{answer, put_spans, cut_block, search_block}
use Rattle.cuts.specs.Slices.{block_of}

-- ---- the words of a block

-- a word of the ledger that starts at a position of the block: so many characters from there on, with the ledger's frequency
pub record HeldAt (ledger : List Entry) (cs : List ℕ) (position : ℕ) (w : Word) : Type 0 where
  pub size : ℕ
  pub one_or_more : 1 ≤ size
  pub inside : position + size ≤ length cs
  pub ends : w.end ≡ position + size
  pub entered : frequency_in ledger (take size (drop position cs)) ≡ some w.frequency

-- "each position's held words, ends rising": the rows have, for each position, the words of the ledger that start there, and no others
pub record HeldRows (ledger : List Entry) (cs : List ℕ) (rows : List (List Word)) : Type 0 where
  pub positions : length rows ≡ length cs
  pub each_held : (position : ℕ) (w : Word) → Memᴰ w (get_or rows position []) → HeldAt ledger cs position w
  pub none_missing : (position : ℕ) (w : Word) → HeldAt ledger cs position w → Memᴰ w (get_or rows position [])
  pub rising : (position : ℕ) → Rising (get_or rows position [])

-- how many words there are in all rows
abbrev pub word_count : List (List Word) → ℕ
word_count [] = 0
word_count (row ∷ rows) = length row + word_count rows

-- a walk that met these words and no damage
abbrev pub met : List Edge → Walked
met es = record { edges = es; damaged = false }

-- the walks of the block are those of the rows, "each stored logarithm L of its frequency", and "no cut meets damage there"; so the cut goes by the rows'
-- edges, or answers 10 exactly where "a block has more edges than the edge area"
pub record WalksMeet (b : Book) (cs : List ℕ) (rows : List (List Word)) : Type 0 where
  pub walks : walks_of (words_from b) 0 cs ≡ map met (edges_of rows)
  pub within : (room : ℕ) → edges_within room (walks_of (words_from b) 0 cs) ≡ cond (leb (word_count rows) room) (edges (edges_of rows)) (stopped (Err EdgesFull))

-- so `cut` and `cut_for_search` of the block go by the route through these very rows: the tokens along it, or 10
pub record GoesByRows (b : Book) (cs : List ℕ) (rows : List (List Word)) : Type 0 where
  pub cut : (room : ℕ) (base : Base) (w : Written)
      → cut_block (vocabulary_of b) room base (block_of true cs) w
      ≡ cond (leb (word_count rows) room) (put_spans base cs w (cut_route cs (route_of (log_float b.head.total) 0 (edges_of rows)))) (answer (Err EdgesFull) w)
  pub cut_for_search : (room : ℕ) (base : Base) (w : Written)
      → search_block (vocabulary_of b) room base (block_of true cs) w
      ≡ cond (leb (word_count rows) room) (put_spans base cs w
      (searched cs (edges_of rows) (cut_route cs (route_of (log_float b.head.total) 0 (edges_of rows))))) (answer (Err EdgesFull) w)

-- the words that a cut of the block goes by
pub record BlockWords (b : Book) (ledger : List Entry) (cs : List ℕ) : Type 0 where
  pub rows : List (List Word)
  pub held : HeldRows ledger cs rows
  pub meets : WalksMeet b cs rows
  pub goes_by : GoesByRows b cs rows

-- ---- the best route

-- of these words: "each route entry has the highest score of all paths from its position", a path of words and lone steps; and "every score is minus
-- infinity or a whole number that a double holds exactly"
pub record BestRoute (total : ℕ) (rows : List (List Word)) : Type 0 where
  pub block : Paths.Block total 0 rows
  pub best : (position : ℕ) → position ≤ length rows → BestFrom total rows position
  pub exact : route_of (log_float total) 0 (edges_of rows) ≡ map as_float (score_route total 0 rows)
  pub whole : (position : ℕ) → position ≤ length rows → Held (get_or (score_route total 0 rows) position unreached).score

-- what a cut of the block goes by, and its route
pub record BestInBlock (b : Book) (ledger : List Entry) (cs : List ℕ) : Type 0 where
  pub words : BlockWords b ledger cs
  pub route : BestRoute b.head.total words.rows

-- demand 2: for "books built by calls", "with a total of at least 1, each route entry has the highest score of all paths from its position"; 01: "With
-- total ≥ 1, and each stored logarithm L of its frequency, every score is minus infinity or a whole number that a double holds exactly". Here of every
-- list of scalar values that is no longer than a text may be.
abbrev pub BestInBuiltBooks : Type 0
BestInBuiltBooks =
    (b : Book) (ledger : List Entry) → BuiltByCalls b ledger
    → 1 ≤ b.head.total → (cs : List ℕ) → Scalars cs → length cs ≤ longest_text
    → BestInBlock b ledger cs

-- ---- equal scores

-- the steps of a path from a position, as spans
abbrev pub spans_along : ℕ → List Word → List Span
spans_along from [] = []
spans_along from (step ∷ path) = span from step.end ∷ spans_along step.end path

-- the choice from a position, and that a cut takes it: the steps from there, of which `cut_route` in `GoesByRows` makes the tokens by joining letters, are
-- those of the path
pub record FixedFrom (total : ℕ) (cs : List ℕ) (rows : List (List Word)) (position : ℕ) : Type 0 where
  pub counted : 1 ≤ total
  pub choice : FixedChoice total rows position
  pub steps : steps_from (length cs) (route_of (log_float total) 0 (edges_of rows)) (length cs) position ≡ spans_along position choice.taken

-- what a cut of the block goes by, and the choice from each position whose score is finite
pub record FixedInBlock (b : Book) (ledger : List Entry) (cs : List ℕ) : Type 0 where
  pub words : BlockWords b ledger cs
  pub fixed : (position : ℕ) → position < length cs
      → Finite (get_or (route_of (log_float b.head.total) 0 (edges_of words.rows)) position nowhere).score
      → FixedFrom b.head.total cs words.rows position

-- document 02, note 14: "Where the best score of a block is finite, in a book built by calls, .. the route taken is the only best one such that every other
-- best route, at the first place where the two part, has the smaller end there." The block's score is that of position 0, and the same is claimed from
-- every other position. A finite score has a total of at least 1. "Minus-infinity routes keep only the rule for each position": of these nothing is
-- claimed here (`Examples.antt` shows why), and the rule is `route_of`.
abbrev pub FixedInBuiltBooks : Type 0
FixedInBuiltBooks =
    (b : Book) (ledger : List Entry) → BuiltByCalls b ledger
    → (cs : List ℕ) → Scalars cs → length cs ≤ longest_text
    → FixedInBlock b ledger cs

-- ---- the shortest word

-- at a position the route takes a word of the ledger, with NaN for its score, and no word of the ledger that starts there is shorter
pub record ShortestAt (total : ℕ) (ledger : List Entry) (cs : List ℕ) (rows : List (List Word)) (position : ℕ) : Type 0 where
  pub shortest : Word
  pub held : HeldAt ledger cs position shortest
  pub none_shorter : (w : Word) → HeldAt ledger cs position w → shortest.end ≤ w.end
  pub taken : get_or (route_of (log_float total) 0 (edges_of rows)) position nowhere ≡ record { score = nan; end = shortest.end }

-- what a cut of the block goes by, and its route wherever a word starts
pub record ShortestInBlock (b : Book) (ledger : List Entry) (cs : List ℕ) : Type 0 where
  pub words : BlockWords b ledger cs
  pub route : (position : ℕ) (w : Word) → HeldAt ledger cs position w → ShortestAt b.head.total ledger cs words.rows position

-- 01: "a NaN first edge stays, so at total 0 the shortest word wins in a book built by calls"
abbrev pub ShortestInBuiltBooks : Type 0
ShortestInBuiltBooks =
    (b : Book) (ledger : List Entry) → BuiltByCalls b ledger
    → b.head.total ≡ 0 → (cs : List ℕ) → Scalars cs
    → ShortestInBlock b ledger cs

-- ---- the blocks of a sentence

-- the same of each block of each sentence, by whatever class it is cut into blocks: "UTF-8 sentences of at most 16,777,215 bytes"
abbrev pub BestInSentences : Type 0
BestInSentences =
    (b : Book) (ledger : List Entry) → BuiltByCalls b ledger
    → 1 ≤ b.head.total → (sentence cs : List ℕ) → length sentence ≤ longest_text → chars_of sentence ≡ some cs
    → (class : ℕ → Bool) (block : Blocks.Block) → Memᴰ block (blocks_of class cs)
    → BestInBlock b ledger block.chars

abbrev pub FixedInSentences : Type 0
FixedInSentences =
    (b : Book) (ledger : List Entry) → BuiltByCalls b ledger
    → (sentence cs : List ℕ) → length sentence ≤ longest_text → chars_of sentence ≡ some cs
    → (class : ℕ → Bool) (block : Blocks.Block) → Memᴰ block (blocks_of class cs)
    → FixedInBlock b ledger block.chars

abbrev pub ShortestInSentences : Type 0
ShortestInSentences =
    (b : Book) (ledger : List Entry) → BuiltByCalls b ledger
    → b.head.total ≡ 0 → (sentence cs : List ℕ) → chars_of sentence ≡ some cs
    → (class : ℕ → Bool) (block : Blocks.Block) → Memᴰ block (blocks_of class cs)
    → ShortestInBlock b ledger block.chars

-- ---- search words

-- whether a lookup in the trie found a word
abbrev pub is_held : WordNumber → Bool
is_held (Ok (Some n)) = true
is_held (Ok None) = false
is_held (Err d) = false

-- what a lookup in a book finds of a word
abbrev pub looked_up : Book → List ℕ → WordNumber
looked_up b word = get_of b.head.records b.trie word

-- a lookup finds a word or not, as the walk has it or not, and meets no damage
pub record AsLookedUp (b : Book) (word : List ℕ) (held : Bool) : Type 0 where
  pub same : held ≡ is_held (looked_up b word)
  pub undamaged : looked_up b word ≢ Err damage

-- 01, "Search, per token": "its held 2-character words", "its held 3-character words". In every book, built or not: where the walk from a position met no
-- damage, one of its words ends so many characters on exactly where a lookup finds these characters; and no such lookup meets damage, so search never
-- answers 8 after the walk.
abbrev pub SearchWordsAreHeld : Type 0
SearchWordsAreHeld =
    (b : Book) (at size : ℕ) (cs : List ℕ)
    → size ≤ length cs
    → (words_from b at cs).damaged ≡ false
    → AsLookedUp b (take size cs) (any_of (λ (e : Edge). eqb e.end (at + size)) (words_from b at cs).edges)

-- so of the edges by which a block is cut: search finds a stretch held exactly where a lookup finds its characters
abbrev pub HeldBetweenIsLookedUp : Type 0
HeldBetweenIsLookedUp =
    (b : Book) (room : ℕ) (cs : List ℕ) (rows : List (List Edge))
    → edges_within room (walks_of (words_from b) 0 cs) ≡ edges rows
    → (from size : ℕ)
    → from + size ≤ length cs
    → AsLookedUp b (take size (drop from cs)) (held_between rows (span from (from + size)))
