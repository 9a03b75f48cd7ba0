-- The annotations of the labels of a diagnostic, collected one label after another and then put in
-- order: for the clauses `collected` and `failed` of `collect`.
use Rattle.codespan_core.proofs.Std.{◌≡◌, ℕ, ◌+◌, ◌<◌, Bool, true, List, []}
use Rattle.codespan_core.proofs.Std.{◌∷◌, ◌++◌, length, drop, get_or, set, map, Option}
use Rattle.codespan_core.proofs.Std.{Some, None, refl, sym, ap, ◌∙◌, subst, ◌^◌, arith}
use Rattle.codespan_core.proofs.Std.{fold, max, IsEquivalence, eq-eqb, common_steps}
use Rattle.codespan_core.proofs.Std.{flat_map-append, append-nil, length-map, length-take-le}
use Rattle.std.proofs.lemmas.List.{map-set}
use Rattle.codespan_core.specs.FileModel.{FileDatabase, FileModel}
use Rattle.codespan_core.specs.FileModel.Lookup.{LineIndex}
use Rattle.codespan_output.specs.Types.{Config, Label, Error}
use Rattle.codespan_output.specs.Lookups.{lookups_of_file, first_error, label_lookups}
use Rattle.codespan_output.specs.Lookups.{label_line_lookups}
use Rattle.codespan_output.specs.OutputStreams.{label_of}
use Rattle.codespan_output.specs.Snippets.{LabelInFile, file_ids}
use Rattle.codespan_output.specs.declared.padding.PaddingWidth.{PaddingWidth}
use Rattle.codespan_views.specs.Private.{RustAnnotation, RustFile, FindsLabelAnnotations}
use Rattle.codespan_views.specs.Private.{LabelToCollect, WidensPadding, labels_failure}
use Rattle.codespan_views.specs.Private.{lines_failure, Annotation, failure_in, annotations_of}
use Rattle.codespan_views.specs.Private.{AppendsAnnotations, AppendsAnnotationsOf, IsLineOf}
use Rattle.codespan_views.specs.Private.{IsOfFiles, annotation_view, AreLabeledFiles, ids_view}
use Rattle.codespan_views.specs.Private.{num_multi_labels_of, with_file, with_labels, without_locus}
use Rattle.codespan_views.specs.Private.{least_starts_with, no_starts, IsIdAt, index_of_file}
use Rattle.codespan_views.specs.Private.{annotations_after, annotations_of_next, all_digit_counts}
use Rattle.codespan_views.specs.Private.{label_digit_counts}
use Rattle.codespan_output.proofs.DrawnLines.Greatest.{greatest-append}
use Rattle.codespan_output.proofs.Utf8.ListElements.{all-both, all-mapped, all-weaker}
use Rattle.codespan_views.proofs.Files.Indices.{first_seen-differ, has-index, index_of_file-at}
use Rattle.codespan_views.proofs.Labels.Collecting.{AppendsAnnotations-as, AppendsAnnotations-both}
use Rattle.codespan_views.proofs.Annotations.OfLabel.{all-of_file}
use Rattle.codespan_views.proofs.Labels.Indexing.{AreFiles, annotations_after-more, label_lanes}
use Rattle.codespan_views.proofs.Labels.Indexing.{labels-none, labels-others, labels-own}
use Rattle.codespan_views.proofs.Labels.Indexing.{num_multi_labels_of-equal, lanes-within, set-at}
use Rattle.codespan_views.proofs.Files.InOrder.{id-at, ids-count, ids-of_labels, is-id, labels-at}
use Rattle.codespan_views.proofs.Annotations.IndexedElements.{IsElementAt}
use Rattle.codespan_views.proofs.Labels.OfFiles.{labels-whole, index-of_all, known-more, before}
use Rattle.codespan_views.proofs.Labels.OfFiles.{before-more, has-file}
use Rattle.codespan_views.proofs.Errors.First.{first_error-none, first_error-some}

-- these labels are done with: each of these files has what they add, their annotations are there by
-- the indices of all files, the padding fits the lines that they span, and no lookup failed
pub record AreCollected {Id : Type 0} (database : FileDatabase Id) (config : Config)
    (all ids : List Id) (done : List (LabelInFile Id)) (files : List (RustFile Id))
    (annotations : List (RustAnnotation Id)) (padding : PaddingWidth) : Type 0 where
  pub labeled : AreLabeledFiles database.same database.file done ids files
  pub added : AppendsAnnotations (IsOfFiles database.file all) [] annotations
      (annotations_after database.same database.file config all [] done)
  pub counted : padding.digit_count ≡ fold max 0 (all_digit_counts database.file done)
  pub succeeded : labels_failure config database done ≡ None

-- a label of the files of a database, by the index of its file, its own index, and its lane
abbrev pub label_to_collect : {Id : Type 0} → FileDatabase Id → Config → ℕ → ℕ → ℕ
    → Label Id
    → LabelToCollect Id
label_to_collect database config file_index index lane label = record {
  file_id = label.file_id;
  file = database.file label.file_id;
  failure = database.failure;
  config = config;
  file_index = file_index;
  index = index;
  lane = lane;
  label = (label_of label).label;
}

-- what the lookups of a label fail with
abbrev label_failure : {Id : Type 0} → FileDatabase Id → Config → Label Id → Option Error
label_failure database config label = labels_failure config database (label_of label ∷ [])

-- the lookups of a label are those of the lines of its ends, and then those of its lines
module _ {Id : Type 0} (database : FileDatabase Id) (config : Config) (label : Label Id) where
  -- it fails with what those of the ends fail with
  pub failure-ends : {e : Error}
      → failure_in database.failure label.file_id
      (LineIndex label.range.start ∷ LineIndex label.range.end ∷ []) ≡ Some e
      → label_failure database config label ≡ Some e
  failure-ends = grind (arith, common_steps)

  -- where those succeed, it fails with what those of its lines fail with
  pub failure-lines : (file_index index lane : ℕ)
      → failure_in database.failure label.file_id
      (LineIndex label.range.start ∷ LineIndex label.range.end ∷ []) ≡ None
      → label_failure database config label
      ≡ lines_failure (label_to_collect database config file_index index lane label)
  failure-lines file_index index lane = grind (arith, common_steps)

module _ {Id : Type 0} {database : FileDatabase Id} (lawful : AreFiles database)
    {labels : List (Label Id)} {index : ℕ} {label : Label Id}
    (turn : IsElementAt labels index label) where
  -- which ids name one file, and the file that an id names
  abbrev same : Id → Id → Bool
  same = database.same

  abbrev file : Id → FileModel
  file = database.file

  -- sameness of ids is an equivalence
  abbrev o : IsEquivalence same
  o = lawful.equivalence

  -- the files of the labels up to this one
  abbrev ids : List Id
  ids = file_ids same (before labels (index + 1))

  -- the files of all labels
  abbrev all : List Id
  all = file_ids same (map label_of labels)

  -- how many labels are before it
  before-length : length (before labels index) ≡ index
  before-length = grind (arith, common_steps, length-map, length-take-le)

  -- an annotation of the label's file is one of all files
  of_files : (e : RustAnnotation Id) → IsLineOf (file label.file_id) e.line
      → e.file_index ≡ index_of_file same all label.file_id → IsOfFiles file all e
  of_files e is_line own id there =
      let equal : same id label.file_id ≡ true =
      sym (index_of_file-at same o (map label_of labels) _ id
      (subst (λ k. IsIdAt all k id) own there) label.file_id) ∙ eq-eqb _ _ refl in
      rw (lawful.one_file id label.file_id equal) is_line

  -- the number of lanes of its file before it
  abbrev lane : ℕ
  lane = num_multi_labels_of same file (before labels index) label.file_id

  -- its annotations
  abbrev own_annotations : Config → List Annotation
  own_annotations config = annotations_of config (file label.file_id)
      (index_of_file same all label.file_id) index lane (label_of label).label

  -- where those of the labels before it succeed, its lookups fail with what all up to it do
  failures-next : (config : Config)
      → labels_failure config database (before labels index) ≡ None
      → labels_failure config database (before labels index ++ label_of label ∷ [])
      ≡ label_failure database config label
  failures-next config none = grind
      (arith, common_steps, flat_map-append, first_error-none, append-nil)

  -- they are those that come after the labels before it
  own-next : (config : Config) → annotations_of_next same file config all (before labels index)
      (label_of label) ≡ own_annotations config
  own-next config = grind (arith, common_steps, before-length)

  -- ---- the labels before it are done with, and its file is there too

  module _ {config : Config} {files : List (RustFile Id)} {annotations : List (RustAnnotation Id)}
      {padding : PaddingWidth}
      (g : AreCollected database config all (file_ids same (before labels (index + 1)))
      (before labels index) files annotations padding) where
    -- the label's annotations were added
    added-more : (more : List (RustAnnotation Id))
        → AppendsAnnotationsOf (file label.file_id) annotations more (own_annotations config)
        → AppendsAnnotations (IsOfFiles file all) [] more
        (annotations_after same file config all [] (before labels (index + 1)))
    added-more more adds =
        let own = all-mapped annotation_view
        (λ (e : Annotation). e.file_index ≡ index_of_file same all label.file_id) adds.more
        (rw adds.are
        (all-of_file config (file label.file_id) _ index lane (label_of label).label)) in
        AppendsAnnotations-as
        (ap (annotations_after same file config all []) (before-more turn)
        ∙ annotations_after-more same file config all [] (before labels index) (label_of label)
        ∙ ap (λ es. annotations_after same file config all [] (before labels index) ++ es)
        (own-next config))
        (AppendsAnnotations-both g.added (record {
          more = adds.more;
          whole = adds.whole;
          are = adds.are;
          each = all-weaker _ _ (λ e h. of_files e h.0 h.1) adds.more
              (all-both _ _ adds.more adds.each own);
        }))

    -- the padding fits the lines that it spans
    counted-more : (wider : PaddingWidth)
        → wider.digit_count ≡ fold max padding.digit_count
        (label_digit_counts (file label.file_id) (label_of label).label)
        → wider.digit_count ≡ fold max 0 (all_digit_counts file (before labels (index + 1)))
    counted-more wider counts = grind
        (arith, common_steps, greatest-append, append-nil, flat_map-append, before-more)

    module _ {at : ℕ} (there : at ≡ index_of_file same (ids_view files) label.file_id) where
      -- its file's index among the files is that among their ids
      index-found : at ≡ index_of_file same ids label.file_id
      index-found = grind (arith, common_steps, ids-of_labels)

      -- it is below their number
      pub index-inside : at < length files
      index-inside =
          let bound = has-index same o ids label.file_id (has-file turn o) in
          grind (arith, common_steps, bound, ids-count, ids-of_labels, index-found)

      module _ {f : RustFile Id} (el : IsElementAt files at f) where
        -- the file there is the label's
        same-file : same f.file_id label.file_id ≡ true
        same-file =
            sym (index_of_file-at same o (before labels (index + 1)) at f.file_id
            (rw (← ids-of_labels g.labeled) (is-id el)) label.file_id)
            ∙ eq-eqb _ _ (sym index-found)

        -- as many lanes are counted for it as there are multi-line labels before
        pub lane-found : f.num_multi_labels ≡ lane
        lane-found = ap (λ t. t.2) (labels-at el g.labeled)
            ∙ num_multi_labels_of-equal lawful _ f.file_id label.file_id same-file

        -- one more can be counted
        pub lane-bound : length labels < 2 ^ 64 → f.num_multi_labels + 1 < 2 ^ 64
        lane-bound small = grind (arith, common_steps, lanes-within, lane-found, before-length)

        -- the label was added to the file
        labeled-more : (new : RustFile Id) → new.file_id ≡ f.file_id
            → new.least_starts ≡ least_starts_with f.least_starts (label_of label).label
            → new.num_multi_labels ≡ f.num_multi_labels + label_lanes (file label.file_id)
            (label_of label).label
            → AreLabeledFiles same file (before labels (index + 1)) ids (set files at new)
        labeled-more new id starts lanes =
            let xs = before labels index in
            let x = label_of label in
            let was = labels-at el g.labeled in
            let now : without_locus new ≡ with_labels same file (xs ++ x ∷ []) f.file_id =
            grind (arith, common_steps, labels-own, same-file, lawful.one_file) in
            let name : f.file_id ≡ get_or ids (index_of_file same ids label.file_id) f.file_id =
            id-at el ∙ (λ i. get_or (ids-of_labels g.labeled i) (index-found i) f.file_id) in
            record {
              are = map-set without_locus files at new
                  ∙ (λ i. set (g.labeled.are i) (index-found i) (without_locus new))
                  ∙ set-at o (labels-others same file xs x) ids f.file_id (without_locus new)
                  (first_seen-differ same o _) (has-file turn o)
                  (now ∙ ap (with_labels same file (xs ++ x ∷ [])) name)
                  ∙ ap (λ ys. map (with_labels same file ys) ids) (sym (before-more turn));
            }

        -- one more label, whose file is at this index, and whose lookups succeeded
        pub collected-more : {n : ℕ} {more : List (RustAnnotation Id)} {wider : PaddingWidth}
            → n ≡ lane
            → FindsLabelAnnotations (label_to_collect database config at index n label)
            annotations more
            → WidensPadding (label_to_collect database config at index n label) padding wider
            → label_failure database config label ≡ None
            → (new : RustFile Id) → new.file_id ≡ f.file_id
            → new.least_starts ≡ least_starts_with f.least_starts (label_of label).label
            → new.num_multi_labels ≡ f.num_multi_labels + label_lanes (file label.file_id)
            (label_of label).label
            → AreCollected database config all (file_ids same (before labels (index + 1)))
            (before labels (index + 1)) (set files at new) more wider
        collected-more {more = more} {wider} is_lane adds widens done new id now lanes = record {
          labeled = labeled-more new id now lanes;
          added =
              added-more more (rw (index-of_all turn o, ← index-found, ← is_lane) adds);
          counted = counted-more wider widens;
          succeeded =
              ap (labels_failure config database) (before-more turn)
              ∙ failures-next config g.succeeded ∙ done;
        }

  -- ---- the labels before it are done with

  module _ {config : Config} {files : List (RustFile Id)} {annotations : List (RustAnnotation Id)}
      {padding : PaddingWidth}
      (g : AreCollected database config all (file_ids same (before labels index))
      (before labels index) files annotations padding) where
    -- its file was found: it is one of those of the labels before, or after them
    pub file-indexed : {now : List (RustFile Id)}
        → map without_locus now ≡ with_file same (ids_view files) label.file_id
        (map without_locus files) (label.file_id, no_starts, 0)
        → AreCollected database config all (file_ids same (before labels (index + 1)))
        (before labels index) now annotations padding
    file-indexed {now} indexed =
        let xs = before labels index in
        let x = label_of label in
        rw (before-more turn) (record {
          labeled = record {
            are = known-more o xs x (with_labels same file xs)
                (labels-none same file xs label.file_id) g.labeled.are
                (rw (← ids-of_labels g.labeled) indexed);
          };
          added = g.added;
          counted = g.counted;
          succeeded = g.succeeded;
        })

    -- its lookups fail
    pub collected-failed : (e : Error)
        → label_failure database config label ≡ Some e
        → labels_failure config database (map label_of labels) ≡ Some e
    collected-failed e some =
        let xs = before labels index ++ label_of label ∷ [] in
        let rest = map label_of (drop (index + 1) labels) in
        ap (labels_failure config database) (labels-whole turn)
        ∙ ap (first_error database.failure)
        (flat_map-append (λ (x : LabelInFile Id). lookups_of_file x.file_id
        (label_line_lookups config (file x.file_id) (database.failure x.file_id) x.label))
        xs rest)
        ∙ first_error-some database.failure (label_lookups config database xs)
        (label_lookups config database rest) e (failures-next config g.succeeded ∙ some)
