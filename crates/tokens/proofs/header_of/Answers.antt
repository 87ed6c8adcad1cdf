use Rattle.tokens.proofs.Heads.{p_within, cnf_within, header_p_no, header_cnf_no, header_yes, spelled}
use mathlib.Core.Bool.{not}
use mathlib.Core.Path.{ap, sym, ◌∙◌}
use Rattle.tokens.proofs.header_of.Goals as goal

pub returns-then-ne : goal.returns-then-ne
returns-then-ne c = header_p_no c.requires (spelled c.ne.ensures c.word_at.ensures c.as_slice.ensures ∙ ap not c.if-ne.true)

pub next-cnf-requires : goal.next-cnf-requires
next-cnf-requires c = p_within c.requires (spelled c.ne.ensures c.word_at.ensures c.as_slice.ensures ∙ ap not c.if-ne.false)

pub returns-then-ne-2 : goal.returns-then-ne-2
returns-then-ne-2 c =
    let p = spelled c.ne.ensures c.word_at.ensures c.as_slice.ensures ∙ ap not c.if-ne.false in
    header_cnf_no c.requires p c.next-cnf.ensures (spelled c.ne-2.ensures c.word_at-2.ensures c.as_slice-2.ensures ∙ ap not c.if-ne-2.true)

pub sizes_at-requires : goal.sizes_at-requires
sizes_at-requires c =
    let p = spelled c.ne.ensures c.word_at.ensures c.as_slice.ensures ∙ ap not c.if-ne.false in
    cnf_within c.requires p c.next-cnf.ensures (spelled c.ne-2.ensures c.word_at-2.ensures c.as_slice-2.ensures ∙ ap not c.if-ne-2.false)

pub returns : goal.returns
returns c =
    let p = spelled c.ne.ensures c.word_at.ensures c.as_slice.ensures ∙ ap not c.if-ne.false in
    c.sizes_at.ensures ∙ sym (header_yes c.requires p c.next-cnf.ensures (spelled c.ne-2.ensures c.word_at-2.ensures c.as_slice-2.ensures ∙ ap not c.if-ne-2.false))
