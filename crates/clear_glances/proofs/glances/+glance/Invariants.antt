use Rattle.std.proofs.Common.{◌+◌, ◌*◌}
use Rattle.clear_glances.proofs.glances.+glance.Given as goal

abbrev pub decreases-glance : goal.decreases-glance
decreases-glance l = l.depth * 4 + 3

abbrev pub decreases-glance_read : goal.decreases-glance_read
decreases-glance_read l = l.depth * 4 + 2

abbrev pub decreases-glance_binary : goal.decreases-glance_binary
decreases-glance_binary l = l.depth * 4 + 2

abbrev pub decreases-glance_convert : goal.decreases-glance_convert
decreases-glance_convert l = l.depth * 4 + 2

abbrev pub decreases-glance_place : goal.decreases-glance_place
decreases-glance_place l = l.depth * 4 + 1

abbrev pub decreases-glance_element : goal.decreases-glance_element
decreases-glance_element l = l.depth * 4

abbrev pub decreases-glance_field : goal.decreases-glance_field
decreases-glance_field l = l.depth * 4

abbrev pub decreases-glance_pointer : goal.decreases-glance_pointer
decreases-glance_pointer l = l.depth * 4 + 3

abbrev pub decreases-glance_link : goal.decreases-glance_link
decreases-glance_link l = l.depth * 4 + 2
