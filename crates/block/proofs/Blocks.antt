-- A block by its mode: outside the class each character; of the class, what stopped its walk, or what the tokens bring along the route through its edges.
-- Assumes nothing.
use Rattle.std.specs.Prelude.{Err}
use mathlib.Core.Path.{◌≡◌, refl, sym, ap, subst, ◌∙◌}
use mathlib.Core.Bool.{Bool, true, false}
use mathlib.Core.List.{List, [], ◌∷◌}
use Prim.Native.Nat.{ℕ, suc, ◌≤◌, ◌<◌}
use native.Mathlib.Omega.{arith}
use lib.Ieee.{Float}
use lib.ListN.{length, get_or, take}
use lib.Seq.{length-take-le, get_or-take}
use Rattle.std.specs.Prelude.{Result, Ok, Err}
use Rattle.trie.specs.Trie.{CharTrie}
use Rattle.score.specs.Logarithm.{log_float}
use Rattle.classes.specs.Blocks.{cut_class}
use Rattle.book.specs.declared.Refusal.TheVariants.{Damaged, EdgesFull}
use Rattle.book.specs.Areas.{book_of}
use Rattle.book.specs.Returns.{Book, Outcome}
use Rattle.book.specs.Prefixes.{Edge, words_from}
use Rattle.route.specs.Route.{route_of}
use Rattle.route.specs.Slices.{rows_of, EdgesFit, KeepsRoute}
use Rattle.route.proofs.Forward.{ends_forward}
use Rattle.cuts.specs.Edges.{Edges, edges, stopped, vocabulary_of, walks_of, edges_within}
use Rattle.cuts.specs.Slices.{block_of}
use Rattle.cuts.specs.declared.TokenizeMode.{TokenizeMode}
use Rattle.cuts.specs.declared.TokenizeMode.TheVariants.{Default, Search}
use Rattle.cuts.specs.Tokens.{Span, Base, Written, any_of, singly, searched, cut_route}
use Rattle.cuts.specs.Cuts.{CutAnswer, answer, put_spans, cut_edges, search_edges, cut_block, search_block}
use Rattle.prefixes.specs.declared.PrefixError.{PrefixError}
use Rattle.prefixes.specs.Edges.{WalkedBlock}
use Rattle.search_words.specs.Rising.{EndsRise}
use Rattle.search.proofs.Brought.{outside_class}
use Rattle.search_words.proofs.Rising.{ends_rise}
use Rattle.cut_route.specs.Routes.{Forward, HasEnds, tokens_by}
use Rattle.block.specs.Plans.{block_by, OneKind}

-- ---- outside the class

-- search brings each token alone
none_of : (cs : List ℕ) → ((i : ℕ) → i < length cs → cut_class (get_or cs i 0) ≡ false) → any_of cut_class cs ≡ false
none_of [] each = refl
none_of (c ∷ cs) each = rw (each 0 (omega arith)) (none_of cs (λ i h. each (suc i) (omega arith)))

outside_by : (chars : List ℕ) (n : ℕ) → n ≤ length chars → OneKind cut_class false n chars → (spans : List Span) → searched (take n chars) [] spans ≡ spans
outside_by chars n long kind spans =
    outside_class (take n chars)
    (none_of (take n chars) (λ i h.
    let inside : i < n = omega (arith, length-take-le n chars long) in
    ap cut_class (get_or-take n chars i 0 inside) ∙ kind i inside))
    spans

pub outside : (mode : TokenizeMode) (b : Book) (room : ℕ) (base : Base) (m : Bool) (chars : List ℕ) (n : ℕ) (w : Written) (a : CutAnswer) → m ≡ false
    → n ≤ length chars → OneKind cut_class m n chars
    → a ≡ put_spans base (take n chars) w (singly 0 (take n chars)) → a ≡ block_by mode (vocabulary_of b) room base (block_of m (take n chars)) w
unfolding block_by cut_block search_block
outside Default b room base m chars n w a other long kind same = rw other same
outside Search b room base m chars n w a other long kind same =
    same
    ∙ ap (put_spans base (take n chars) w) (sym (outside_by chars n long (subst (λ (k : Bool). OneKind cut_class k n chars) other kind)
    (singly 0 (take n chars))))
    ∙ rw other refl

-- ---- of the class

-- a block of the class goes by its edges
edges_by : TokenizeMode → Float → Base → List ℕ → Written → Edges → CutAnswer
edges_by Default = cut_edges
edges_by Search = search_edges

module _ (mode : TokenizeMode) (b : Book) (n room : ℕ) (base : Base) (m : Bool) (cs : List ℕ) (w : Written) (starts ends records : List ℕ)
    (r : Result ℕ PrefixError) (of_class : m ≡ true)
    (walked : WalkedBlock b n room cs starts ends records r) where
  by_edges : (k : TokenizeMode) (e : Edges) → edges_within room (walks_of (words_from b) 0 cs) ≡ e
      → block_by k (vocabulary_of b) room base (block_of m cs) w ≡ edges_by k (log_float b.head.total) base cs w e
  unfolding block_by edges_by cut_block search_block
  by_edges Default e same = rw (of_class, same)
  by_edges Search e same = rw (of_class, same)

  stopped_by : (k : TokenizeMode) (o : Outcome) → answer o w ≡ edges_by k (log_float b.head.total) base cs w (stopped o)
  unfolding edges_by
  stopped_by Default o = refl
  stopped_by Search o = refl

  routed_by : (k : TokenizeMode) (rows : List (List Edge))
      → put_spans base cs w (tokens_by k cs rows (cut_route cs (route_of (log_float b.head.total) 0 rows)))
      ≡ edges_by k (log_float b.head.total) base cs w (edges rows)
  unfolding edges_by tokens_by
  routed_by Default rows = refl
  routed_by Search rows = refl

  -- "with 8 or 10 as it meets them"
  pub stopped_full : r ≡ Err PrefixError.Full → answer (Err EdgesFull) w ≡ block_by mode (vocabulary_of b) room base (block_of m cs) w
  stopped_full told = stopped_by mode (Err EdgesFull) ∙ sym (by_edges mode (stopped (Err EdgesFull)) (subst (WalkedBlock b n room cs starts ends records) told walked))

  pub stopped_damaged : r ≡ Err PrefixError.Damaged → answer (Err Damaged) w ≡ block_by mode (vocabulary_of b) room base (block_of m cs) w
  stopped_damaged told = stopped_by mode (Err Damaged) ∙ sym (by_edges mode (stopped (Err Damaged)) (subst (WalkedBlock b n room cs starts ends records) told walked))

  -- "then that block's tokens": along the route, from the stored logarithms and L(total)
  pub routed : (count : ℕ) → r ≡ Ok count → (logarithms : List Float) (log_total : Float) → b.logarithms ≡ logarithms
      → log_total ≡ log_float b.head.total
      → (a : CutAnswer)
      → a ≡ put_spans base cs w (tokens_by mode cs (rows_of starts ends records logarithms n)
      (cut_route cs (route_of log_total 0 (rows_of starts ends records logarithms n))))
      → a ≡ block_by mode (vocabulary_of b) room base (block_of m cs) w
  routed count told logarithms log_total logs total a same =
      same
      ∙ rw (total, ← logs) (routed_by mode (rows_of starts ends records b.logarithms n))
      ∙ sym (by_edges mode (edges (rows_of starts ends records b.logarithms n)) (subst (WalkedBlock b n room cs starts ends records) told walked).0)

-- ---- what the route is given, and gives

-- the walk's edges fit whatever book they are seen as, and their ends rise: here one that is made of what is lent
pub edges_rise : (t : CharTrie) (logarithms : List Float) (used n room : ℕ) (cs starts ends records : List ℕ) (r : Result ℕ PrefixError) (count : ℕ)
    → used ≤ length logarithms → r ≡ Ok count
    → ((b : Book) → b.trie ≡ t → b.head.records ≡ used → used ≤ length b.logarithms → WalkedBlock b n room cs starts ends records r)
    → EndsRise starts ends n
edges_rise t logarithms used n room cs starts ends records r count within told walked =
    let b : Book = book_of (record { records = used; slots = 0; next = 0; total = 0 }) t [] logarithms in
    let its = subst (WalkedBlock b n room cs starts ends records) told (walked b refl refl within) in
    ends_rise b room cs starts ends records logarithms (length logarithms) n its.0 its.1

pub edges_fit : (t : CharTrie) (logarithms : List Float) (used n room : ℕ) (cs starts ends records : List ℕ) (r : Result ℕ PrefixError) (count : ℕ)
    → used ≤ length logarithms → r ≡ Ok count
    → ((b : Book) → b.trie ≡ t → b.head.records ≡ used → used ≤ length b.logarithms → WalkedBlock b n room cs starts ends records r)
    → EdgesFit starts ends records (length logarithms) n
edges_fit t logarithms used n room cs starts ends records r count within told walked =
    let b : Book = book_of (record { records = used; slots = 0; next = 0; total = 0 }) t [] logarithms in
    (subst (WalkedBlock b n room cs starts ends records) told (walked b refl refl within)).1

module _ (starts edge_ends edge_records : List ℕ) (logarithms : List Float) (log_total : Float) (n : ℕ) (scores : List Float) (ends records : List ℕ)
    (route : KeepsRoute starts edge_ends edge_records logarithms log_total n scores ends records) where
  pub steps_forward : EdgesFit starts edge_ends edge_records (length logarithms) n → Forward n ends
  steps_forward fit = record {
    onward = λ i h. (ends_forward starts edge_ends edge_records logarithms log_total n scores ends records fit route i h).0;
    inside = λ i h. (ends_forward starts edge_ends edge_records logarithms log_total n scores ends records fit route i h).1;
  }

  pub has_ends : HasEnds n (route_of log_total 0 (rows_of starts edge_ends edge_records logarithms n)) ends
  has_ends i h = route.end i (omega arith)
