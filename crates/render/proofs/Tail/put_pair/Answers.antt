use mathlib.Core.List.{◌++◌}
use Rattle.meaning.specs.Text.{bytes}
use Rattle.render.specs.Shown.{named}
use Rattle.render.proofs.Sets.{two_parts, room_rest}
use Rattle.render.proofs.Tail.put_pair.Goals as goal

pub put_named-requires-2 : goal.put_named-requires-2
put_named-requires-2 c =
    let first = named c.args.first.now c.args.number in
    let second = named c.args.second.now c.args.value in
    room_rest first second (room_rest (first ++ second) (bytes "\n") c.requires c.put_text.ensures.placed) c.put_named.ensures.placed

pub returns-clause-placed : goal.returns-clause-placed
returns-clause-placed c =
    two_parts c.put_text.ensures.placed (two_parts c.put_named.ensures.placed c.put_named-2.ensures.placed)
