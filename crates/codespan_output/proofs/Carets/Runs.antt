-- For `write_carets`: the carets under a line, run by run.
use Rattle.codespan_core.proofs.Std.{◌≡◌, ℕ, ◌+◌, ◌<◌, ◌≤◌, Bool, true, false}
use Rattle.codespan_core.proofs.Std.{List, [], ◌∷◌, ◌++◌, Option, None, Some, refl, sym}
use Rattle.codespan_core.proofs.Std.{ap, ◌∙◌, append_assoc, append-nil, add-zero, arith}
use Rattle.codespan_core.proofs.Std.{le-ltb, lt-ltb, nat_lt, if◌then◌else◌, encode_utf8}
use Rattle.codespan_core.proofs.Std.{ap₂, cond, zero, suc, nat_tests}
use Rattle.codespan_core.specs.Labels.{LabelModel}
use Rattle.codespan_core.specs.Streams.{Stream, spaces, byte_stream, repeated, Byte}
use Rattle.codespan_output.specs.Types.{Severity, LabelStyle, Chars, Metrics}
use Rattle.codespan_output.specs.{style_under, caret_for, max_label_end, RowContext, style_change}
use Rattle.codespan_output.specs.{carets, metrics_before}
use Rattle.codespan_output.specs.Private.{caret_run, AreContiguous, caret_glyphs, styled_after}
use Rattle.codespan_output.proofs.Carets.Ends.{style_under-below}
use Rattle.codespan_output.proofs.Outputs.RowEquations.{spaces-add, repeated-add, style_change-same}
use Rattle.codespan_output.proofs.Outputs.RowEquations.{regroup}
use Rattle.codespan_output.proofs.Characters.Styled.{carets-is}

-- the carets of the remaining characters
abbrev glyphs_left : RowContext → List LabelModel → Option LabelStyle → List Metrics
    → Stream
glyphs_left context labels previous cs =
    styled_after context.severity (style_under labels)
    (λ c. caret_glyphs context.chars (max_label_end labels) (style_under labels c)
    c) previous cs

-- the carets of a run that has begun, and of the remaining characters
abbrev pub carets_left : RowContext → List LabelModel → Option LabelStyle → ℕ
    → List Metrics
    → Stream
carets_left context labels previous run cs =
    caret_run context.chars previous run ++ glyphs_left context labels previous cs

-- ---- a run

-- how many cells of carets or spaces a character has under it, where they reach to this end
abbrev pub caret_count : ℕ → Option LabelStyle → Metrics → ℕ
caret_count end None c = if nat_lt c.byte_index end then c.unicode_width else 0
caret_count end (Some style) c = c.unicode_width

spaces-count : (chars : Chars) (end : ℕ) (c : Metrics) (run : ℕ) (b : Bool)
    → nat_lt c.byte_index end ≡ b
    → caret_run chars None (run + caret_count end None c) ≡ caret_run chars None run
    ++ caret_glyphs
    chars end None c
unfolding caret_run caret_glyphs
spaces-count chars end c run true e = rw e (spaces-add run c.unicode_width)
spaces-count chars end c run false e =
    rw e (ap spaces (add-zero run) ∙ sym (append-nil (spaces run)))

-- a run without a cell
none-run : (chars : Chars) (style : Option LabelStyle) → caret_run chars style 0 ≡ []
unfolding caret_run spaces repeated byte_stream
none-run chars None = refl
none-run chars (Some style) = refl

-- a run continues under a character
pub run-counts : (chars : Chars) (end : ℕ) (style : Option LabelStyle) (c : Metrics) (run : ℕ)
    → caret_run chars style (run + caret_count end style c) ≡ caret_run chars style
    run ++ caret_glyphs chars end style c
unfolding caret_run caret_glyphs
run-counts chars end None c run = spaces-count chars end c run _ refl
run-counts chars end (Some style) c run =
    repeated-add run c.unicode_width (caret_for chars (Some style))

-- ---- the remaining characters

grown : (run shown more rest : Stream) → more ≡ run ++ shown
    → run ++ (shown ++ rest) ≡ more ++ rest
grown run shown more rest e =
    sym (append_assoc run shown rest) ∙ ap (λ (l : Stream). l ++ rest) (sym e)

goes_on : (context : RowContext) (labels : List LabelModel) (run : ℕ) (c : Metrics)
    (cs : List Metrics)
    → caret_run context.chars (style_under labels c)
    run
    ++ (caret_glyphs context.chars (max_label_end labels) (style_under labels c) c
    ++ glyphs_left context labels (style_under labels c) cs)
    ≡ carets_left context labels (style_under labels c)
    (run + caret_count (max_label_end labels) (style_under labels c) c) cs
goes_on context labels run c cs =
    grown (caret_run context.chars (style_under labels c) run)
    (caret_glyphs context.chars (max_label_end labels) (style_under labels c) c)
    (caret_run context.chars (style_under labels c)
    (run + caret_count (max_label_end labels) (style_under labels c) c))
    (glyphs_left context labels (style_under labels c) cs)
    (run-counts context.chars (max_label_end labels) (style_under labels c) c run)

unchanged : (chars : Chars) (severity : Severity) (previous style : Option LabelStyle) (run : ℕ)
    → previous ≡ style
    → caret_run chars previous run ++ style_change severity previous style
    ≡ caret_run chars style run
unchanged chars severity previous style run e =
    rw (e, style_change-same severity style) (append-nil (caret_run chars style run))

-- the next character continues the run
pub carets-same : (context : RowContext) (labels : List LabelModel)
    (previous style : Option LabelStyle) (run count : ℕ) (c : Metrics) (left cs : List Metrics)
    → left ≡ c ∷ cs → style ≡ style_under labels c
    → count ≡ caret_count (max_label_end labels) style c → previous ≡ style
    → carets_left context labels previous run left
    ≡ carets_left context labels style (run + count) cs
carets-same context labels previous style run count c left cs l s n e =
    rw (l, n, s)
    (regroup (caret_run context.chars previous run)
    (style_change context.severity previous (style_under labels c))
    (caret_glyphs context.chars (max_label_end labels) (style_under labels c) c)
    (glyphs_left context labels (style_under labels c) cs)
    ∙ ap
    (λ (l : Stream). l
    ++ (caret_glyphs context.chars (max_label_end labels) (style_under labels c) c
    ++ glyphs_left context labels (style_under labels c) cs))
    (unchanged context.chars context.severity previous (style_under labels c) run (e ∙ s))
    ∙ goes_on context labels run c cs)

begins : (context : RowContext) (labels : List LabelModel) (c : Metrics) (cs : List Metrics)
    → caret_glyphs context.chars (max_label_end labels) (style_under labels c) c ++ glyphs_left
    context labels (style_under labels c) cs
    ≡ carets_left context labels (style_under labels c)
    (0 + caret_count (max_label_end labels) (style_under labels c) c) cs
begins context labels c cs =
    ap (λ (l : Stream). l ++ (caret_glyphs context.chars (max_label_end labels)
    (style_under labels c) c ++ glyphs_left context labels (style_under labels c) cs))
    (sym (none-run context.chars (style_under labels c)))
    ∙ goes_on context labels 0 c cs

-- the next character begins another run
pub carets-turn : (context : RowContext) (labels : List LabelModel)
    (previous style : Option LabelStyle) (run count : ℕ) (c : Metrics) (left cs : List Metrics)
    → left ≡ c ∷ cs → style ≡ style_under labels c
    → count ≡ caret_count (max_label_end labels) style c
    → carets_left context labels previous run left ≡ caret_run context.chars previous run
    ++ style_change
    context.severity previous style ++ carets_left context labels style (0 + count) cs
carets-turn context labels previous style run count c left cs l s n =
    rw (l, n, s)
    (regroup (caret_run context.chars previous run)
    (style_change context.severity previous (style_under labels c))
    (caret_glyphs context.chars (max_label_end labels) (style_under labels c) c)
    (glyphs_left context labels (style_under labels c) cs)
    ∙ ap
    (λ (l : Stream). caret_run context.chars previous run
    ++ style_change context.severity previous (style_under labels c) ++ l)
    (begins context labels c cs))

-- none remains
pub carets-end : (context : RowContext) (labels : List LabelModel) (previous : Option LabelStyle)
    (run : ℕ) (left : List Metrics)
    → left ≡ []
    → caret_run context.chars previous run ++ style_change context.severity previous None
    ≡ carets_left
    context labels previous run left
carets-end context labels previous run left e = rw e refl

-- ---- past the greatest end

not-none : (labels : List LabelModel) (c : Metrics) → max_label_end labels ≤ c.byte_index
    → (style : Option LabelStyle) → style_under labels c ≡ style
    → style_under labels c ≡ None
not-none labels c past None is = is
not-none labels c past (Some style) is = let low = style_under-below labels c style is in
    absurd (omega arith)

-- a character there has no label over it
none-past : (labels : List LabelModel) (c : Metrics) → max_label_end labels ≤ c.byte_index
    → style_under labels c ≡ None
none-past labels c past = not-none labels c past (style_under labels c) refl

-- and shows nothing
glyphs-past : (chars : Chars) (end : ℕ) (c : Metrics) → end ≤ c.byte_index
    → caret_glyphs chars end None c ≡ []
unfolding caret_glyphs
glyphs-past chars end c past =
    let none : nat_lt c.byte_index end ≡ false = le-ltb c.byte_index end past in
    rw none refl

-- where all characters begin there, the carets end
glyphs_left-past : (context : RowContext) (labels : List LabelModel) (previous : Option LabelStyle)
    (byte_index : ℕ) (cs : List Metrics)
    → AreContiguous byte_index cs → max_label_end labels ≤ byte_index
    → glyphs_left context labels previous cs ≡ style_change context.severity previous None
glyphs_left-past context labels previous byte_index [] follow past = refl
glyphs_left-past context labels previous byte_index (c ∷ cs) follow past =
    let there : max_label_end labels ≤ c.byte_index = omega (arith, follow.0) in
    rw (
      none-past labels c there,
      glyphs-past context.chars (max_label_end labels) c there,
      glyphs_left-past context labels None (byte_index + c.bytes) cs follow.2 (omega arith),
      style_change-same context.severity None,
    )
    (append-nil (style_change context.severity previous None ++ [])
    ∙ append-nil (style_change context.severity previous None))

-- the run that has begun is the last one
pub carets-past : (context : RowContext) (labels : List LabelModel) (previous : Option LabelStyle)
    (run byte_index : ℕ) (left : List Metrics)
    → AreContiguous byte_index left → max_label_end labels ≤ byte_index
    → caret_run context.chars previous run ++ style_change context.severity previous None
    ≡ carets_left
    context labels previous run left
carets-past context labels previous run byte_index left follow past =
    ap (λ (l : Stream). caret_run context.chars previous run ++ l)
    (sym (glyphs_left-past context labels previous byte_index left follow past))

-- a character before that has all its cells counted
pub counts-all : (style : Option LabelStyle) (end : ℕ) (c : Metrics) → c.byte_index < end
    → c.unicode_width ≡ caret_count end style c
counts-all None end c h = let low : nat_lt c.byte_index end ≡ true = lt-ltb c.byte_index end h in
    rw low refl
counts-all (Some style) end c h = refl

-- ---- the carets of all characters

spaces-repeated : (n : ℕ) → repeated n 32 ≡ spaces n
unfolding repeated spaces byte_stream encode_utf8
spaces-repeated zero = refl
spaces-repeated (suc n) = ap (λ s. Byte 32 ∷ s) (spaces-repeated n)

-- a character before the end shows its carets, or its spaces
glyphs-before : (chars : Chars) (end : ℕ) (style : Option LabelStyle) (c : Metrics)
    → nat_lt c.byte_index end ≡ true
    → repeated c.unicode_width (caret_for chars style) ≡ caret_glyphs chars end style c
unfolding caret_glyphs
glyphs-before chars end None c before = rw before (spaces-repeated c.unicode_width)
glyphs-before chars end (Some style) c before = refl

-- where the first character begins at the end, none begins before it
none-before : (end byte_index : ℕ) (cs : List Metrics) → AreContiguous byte_index cs
    → end ≤ byte_index → metrics_before end cs ≡ []
none-before end byte_index [] follow past = refl
none-before end byte_index (c ∷ cs) follow past =
    let late : nat_lt c.byte_index end ≡ false =
    (let here = follow.0 in grind (arith, nat_tests)) in
    rw late (none-before end (byte_index + c.bytes) cs follow.2 (omega arith))

-- the characters that begin before the greatest end show what all show
glyphs-all : (context : RowContext) (labels : List LabelModel) (previous : Option LabelStyle)
    (byte_index : ℕ) (cs : List Metrics)
    → AreContiguous byte_index cs
    → glyphs_left context labels previous cs
    ≡ styled_after context.severity (style_under labels)
    (λ c. repeated c.unicode_width (caret_for context.chars (style_under labels c))) previous
    (metrics_before (max_label_end labels) cs)
glyphs-all context labels previous byte_index [] follow = refl
glyphs-all context labels previous byte_index (c ∷ cs) follow =
    by_test
    (glyphs-all context labels (style_under labels c) (byte_index + c.bytes) cs follow.2)
    (nat_lt c.byte_index (max_label_end labels)) refl
  where
    later : List Metrics
    later = metrics_before (max_label_end labels) cs

    shown : Option LabelStyle → List Metrics → Stream
    shown before ds =
        styled_after context.severity (style_under labels)
        (λ d. repeated d.unicode_width (caret_for context.chars (style_under labels d))) before ds

    by_test : glyphs_left context labels (style_under labels c) cs
        ≡ shown (style_under labels c) later
        → (b : Bool) → nat_lt c.byte_index (max_label_end labels) ≡ b
        → glyphs_left context labels previous (c ∷ cs)
        ≡ shown previous (cond b (c ∷ later) later)
    by_test rest true before =
        ap₂ (λ s t. style_change context.severity previous (style_under labels c) ++ s ++ t)
        (sym
        (glyphs-before context.chars (max_label_end labels) (style_under labels c) c before))
        rest
    by_test rest false after =
        let past : max_label_end labels ≤ byte_index =
        (let here = follow.0 in grind (arith, nat_tests)) in
        glyphs_left-past context labels previous byte_index (c ∷ cs) follow past
        ∙ ap (shown previous)
        (sym
        (none-before (max_label_end labels) (byte_index + c.bytes) cs follow.2 (omega arith)))

-- no run has begun
pub carets-start : (context : RowContext) (labels : List LabelModel) (byte_index : ℕ)
    (cs : List Metrics)
    → AreContiguous byte_index cs
    → carets_left context labels None 0 cs ≡ carets context labels cs
unfolding caret_run spaces byte_stream
carets-start context labels byte_index cs follow =
    glyphs-all context labels None byte_index cs follow ∙ sym (carets-is context labels cs)
