use Rattle.codespan_native.proofs.render.render.Goals as goal

-- the output is in the form that was chosen
pub returns-in-SafeText : goal.returns-in-SafeText
returns-in-SafeText c = rw c.in-SafeText.is c.render_safe_text.ensures

pub returns-in-Terminal : goal.returns-in-Terminal
returns-in-Terminal c = rw c.in-Terminal.is c.render_terminal.ensures

pub returns-in-Text : goal.returns-in-Text
returns-in-Text c = rw c.in-Text.is c.render_plain.ensures

pub returns-in-Ansi : goal.returns-in-Ansi
returns-in-Ansi c = rw c.in-Ansi.is c.render_ansi.ensures

pub returns-in-StyleMarks : goal.returns-in-StyleMarks
returns-in-StyleMarks c = rw c.in-StyleMarks.is c.render_style_marks.ensures

pub returns-in-Html : goal.returns-in-Html
returns-in-Html c = rw c.in-Html.is c.render_html.ensures

pub returns-in-Svg : goal.returns-in-Svg
returns-in-Svg c = rw c.in-Svg.is c.render_svg.ensures
