use Rattle.render.specs.Shown.{shown, named}
use Rattle.render.proofs.Sets.{two_parts, room_last, room_rest}
use Rattle.render.proofs.Tail.put_named.Goals as goal

-- `render::put_named` meets its contract: the number finds room, and what it is before it. Assumes nothing.
pub put_number-requires : goal.put_number-requires
unfolding named
put_number-requires c =
    room_last c.args.name.now (shown c.args.value) c.requires

pub put_text-requires : goal.put_text-requires
unfolding named
put_text-requires c =
    room_rest c.args.name.now (shown c.args.value) c.requires c.put_number.ensures.placed

pub returns-clause-placed : goal.returns-clause-placed
unfolding named
returns-clause-placed c = two_parts c.put_number.ensures.placed c.put_text.ensures.placed
