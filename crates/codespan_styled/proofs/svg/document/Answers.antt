use Rattle.codespan_styled.specs.Svg.{font_attributes, background_tag_content}
use Rattle.codespan_styled.proofs.Glyphs.{document-written}
use Rattle.codespan_styled.proofs.svg.document.Goals as goal

pub returns : goal.returns
unfolding font_attributes background_tag_content
returns c =
    document-written c.args.glyphs.now c.extent.result _ _ _ _ _ c.new-document.ensures.bytes
    c.extent.ensures.extent c.in_ok-push_size.ensures c.in_ok-push_str.ensures.bytes
    c.in_ok-push_texts.ensures
    c.in_ok-push_str-2.ensures.bytes
