-- For the clauses of the functions of `rows` that write one piece after another.
use Rattle.codespan_core.proofs.Std.{◌≡◌, ◌<◌, ◌+◌, ◌++◌, ◌∷◌, ◌∙◌}
use Rattle.codespan_core.proofs.Std.{[], ℕ, List, refl, ap, sym, length, get_or, drop, map}
use Rattle.codespan_core.proofs.Std.{flat_map, drop_more, flat_map-append, flat_map-map, append-nil}
use Rattle.codespan_core.proofs.Std.{true, false, subst, Result, ◌==◌, replicate, encode_utf8}
use Rattle.codespan_core.proofs.Std.{if◌then◌else◌, codes, arith, None, Bool, true≢false}
use Rattle.codespan_core.proofs.Std.{zero, suc}
use Rattle.codespan_core.specs.Streams.{Stream, byte_stream, newline, spaces, glyph}
use Rattle.codespan_output.specs.declared.char_metrics.Metrics.{Metrics}
use Rattle.codespan_suggestions.specs.DrawnText.{shown_char, end_text, escaped}
use Rattle.codespan_core.specs.WriterLaw.{Sink, Writes, with_written, is_known, PrefixWritten}
use Rattle.codespan_core.specs.WriterLaw.{failed_frame}
use Rattle.codespan_core.proofs.Writes.{byte_stream-append}
use Rattle.codespan_core.proofs.Loops.{StillToWrite-start, StillToWrite-more, StillToWrite-last}
use Rattle.codespan_core.proofs.Loops.{StillToWrite-failed}
use Rattle.codespan_suggestions.specs.SuggestionRows.{Row, RowSettings, stream_of, stream_of_rows}
use Rattle.codespan_suggestions.specs.SuggestionRows.{separated, rich_rows, file_rows}
use Rattle.codespan_suggestions.specs.SuggestionRows.Row.{HeaderRow, EmptyRow, FinalRow}
use Rattle.codespan_suggestions.specs.DrawnFiles.{DrawnFile}

-- the piece of the next element comes first
pub next_piece : {X Y : Type 0} (piece : X → List Y) (xs : List X) (i : ℕ) (x : X)
    → i < length xs → x ≡ get_or xs i x
    → flat_map piece (drop i xs) ≡ piece x ++ flat_map piece (drop (i + 1) xs)
next_piece piece xs i x inside is =
    ap (flat_map piece) (drop_more xs i x inside)
    ∙ ap (λ y. piece y ++ flat_map piece (drop (i + 1) xs)) (sym is)

-- pieces of pieces
pub flat_flat : {X Y Z : Type 0} (g : Y → List Z) (f : X → List Y) (xs : List X)
    → flat_map (λ x. flat_map g (f x)) xs ≡ flat_map g (flat_map f xs)
flat_flat g f [] = refl
flat_flat g f (x ∷ xs) =
    ap (λ zs. flat_map g (f x) ++ zs) (flat_flat g f xs)
    ∙ sym (flat_map-append g (f x) (flat_map f xs))

-- the stream of rows that each element of a list has
pub rows_of_each : {X Y : Type 0} (settings : RowSettings) (rows : Y → List Row) (view : X → Y)
    (xs : List X)
    → flat_map (λ x. stream_of_rows settings (rows (view x))) xs
    ≡ stream_of_rows settings (flat_map rows (map view xs))
rows_of_each settings rows view xs =
    flat_flat (λ row. stream_of settings row ++ newline) (λ x. rows (view x)) xs
    ∙ ap (stream_of_rows settings) (sym (flat_map-map rows view xs))

-- the stream of rows with a row before each list
pub rows_after : {X Y : Type 0} (settings : RowSettings) (row : Row) (rows : Y → List Row)
    (view : X → Y) (xs : List X)
    → flat_map (λ x. stream_of_rows settings (row ∷ rows (view x))) xs
    ≡ stream_of_rows settings (flat_map (λ ys. row ∷ ys) (map rows (map view xs)))
rows_after settings row rows view xs =
    rows_of_each settings (λ y. row ∷ rows y) view xs
    ∙ ap (stream_of_rows settings) (sym (flat_map-map (λ ys. row ∷ ys) rows (map view xs)))

-- the stream of one row for each element
pub row_of_each : {X Y : Type 0} (settings : RowSettings) (row : Y → Row) (view : X → Y)
    (xs : List X)
    → flat_map (λ x. stream_of settings (row (view x)) ++ newline) xs
    ≡ stream_of_rows settings (map row (map view xs))
row_of_each settings row view xs =
    sym (flat_map-map (λ r. stream_of settings r ++ newline) row (map view xs)
    ∙ flat_map-map (λ y. stream_of settings (row y) ++ newline) view xs)

-- texts of elements as one stream
pub texts_of_each : {X : Type 0} (text : X → List ℕ) (xs : List X)
    → flat_map (λ x. byte_stream (text x)) xs ≡ byte_stream (flat_map text xs)
unfolding byte_stream
texts_of_each text [] = refl
texts_of_each text (x ∷ xs) =
    ap (λ s. byte_stream (text x) ++ s) (texts_of_each text xs)
    ∙ sym (byte_stream-append (text x) (flat_map text xs))

-- the stream of rows, and of others after them
pub rows-append : (settings : RowSettings) (xs ys : List Row)
    → stream_of_rows settings (xs ++ ys)
    ≡ stream_of_rows settings xs ++ stream_of_rows settings ys
rows-append settings xs ys = flat_map-append (λ row. stream_of settings row ++ newline) xs ys

-- ---- one call after another

-- a call that writes the first part was made, and the next one writes the rest
pub then-writes : {E : Type 0} (s : Sink) (whole a b : Stream) (t : Sink)
    (r : Result (Unit {0}) E) (u : Sink)
    → (t.frame ≡ s.frame) × (is_known s ≡ true → t ≡ with_written s a)
    → Writes t b r u → whole ≡ a ++ b → Writes s whole r u
then-writes s whole a b t r u first second is =
    StillToWrite-last s whole b t r u
    (StillToWrite-more s whole whole s t a b (StillToWrite-start s whole whole refl) first is)
    second

-- the call that writes the first part fails
pub first-fails : (s : Sink) (whole a b : Stream) (t : Sink)
    → (t.frame ≡ failed_frame s.frame) × (is_known s ≡ true → PrefixWritten s a t)
    → whole ≡ a ++ b
    → (t.frame ≡ failed_frame s.frame) × (is_known s ≡ true → PrefixWritten s whole t)
first-fails s whole a b t first is =
    StillToWrite-failed s whole whole s t a b (StillToWrite-start s whole whole refl) first is

-- a call writes a stream that is equal to another one
pub writes-same : {E : Type 0} (s : Sink) (a b : Stream) (r : Result (Unit {0}) E) (t : Sink)
    → a ≡ b → Writes s a r t → Writes s b r t
writes-same s a b r t is e = subst (λ x. Writes s x r t) is e

-- the second of three calls fails
pub second-fails : (s : Sink) (whole a b c : Stream) (t u : Sink)
    → (t.frame ≡ s.frame) × (is_known s ≡ true → t ≡ with_written s a)
    → (u.frame ≡ failed_frame t.frame) × (is_known t ≡ true → PrefixWritten t b u)
    → whole ≡ a ++ (b ++ c)
    → (u.frame ≡ failed_frame s.frame) × (is_known s ≡ true → PrefixWritten s whole u)
second-fails s whole a b c t u first second is =
    StillToWrite-failed s whole (b ++ c) t u b c
    (StillToWrite-more s whole whole s t a (b ++ c) (StillToWrite-start s whole whole refl) first
    is) second refl

-- ---- characters

-- a tab is shown as spaces
pub shown-tab : (c : Metrics) → (c.ch == 9) ≡ true
    → byte_stream (shown_char c) ≡ spaces c.unicode_width
unfolding spaces
shown-tab c is =
    ap (λ b. byte_stream (if b then replicate c.unicode_width 32 else encode_utf8 c.ch)) is

-- any other character as it is
pub shown-other : (c : Metrics) → (c.ch == 9) ≡ false
    → byte_stream (shown_char c) ≡ glyph c.ch
shown-other c is =
    ap (λ b. byte_stream (if b then replicate c.unicode_width 32 else encode_utf8 c.ch)) is

pub ruleset shown_chars = (shown-tab, shown-other)

-- the parts of an output in rich style
pub rich-parts : (settings : RowSettings) (files : List DrawnFile)
    → stream_of_rows settings (rich_rows files)
    ≡ (stream_of settings (HeaderRow None) ++ newline)
    ++ (stream_of_rows settings (separated EmptyRow (map file_rows files)) ++ newline)
rich-parts settings files =
    let rows = separated EmptyRow (map file_rows files) in
    ap (λ s. (stream_of settings (HeaderRow None) ++ newline) ++ s)
    (rows-append settings rows (FinalRow ∷ [])
    ∙ ap (λ s. stream_of_rows settings rows ++ s) (append-nil newline))

-- the first of some lists of rows, and the others with a separator before each
pub first-parts : (settings : RowSettings) (separator : Row) (first : List Row)
    (rest : List (List Row))
    → stream_of_rows settings (separated separator (first ∷ rest))
    ≡ stream_of_rows settings first
    ++ stream_of_rows settings (flat_map (λ rows. separator ∷ rows) rest)
first-parts settings separator first rest =
    rows-append settings first (flat_map (λ rows. separator ∷ rows) rest)

-- what is stated of an end that has a byte
pub end-parts : (end : List ℕ) → 0 < length end
    → byte_stream (end_text end)
    ≡ byte_stream (codes "ends with ") ++ byte_stream (flat_map escaped end)
end-parts [] some = absurd (omega (arith, some))
end-parts (b ∷ bs) some = byte_stream-append (codes "ends with ") (flat_map escaped (b ∷ bs))

-- a list that is not empty
pub nonempty : (n : ℕ) (b : Bool) → b ≡ (n == 0) → b ≡ false → 0 < n
nonempty zero b is not = absurd (true≢false (sym is ∙ not))
nonempty (suc n) b is not = omega arith
