use Rattle.hph_front.proofs.printer.+print.Given as goal

abbrev pub decreases-print : goal.decreases-print
decreases-print l = l.depth

abbrev pub decreases-print_primary : goal.decreases-print_primary
decreases-print_primary l = l.depth

abbrev pub decreases-print_around : goal.decreases-print_around
decreases-print_around l = l.depth

abbrev pub decreases-print_call : goal.decreases-print_call
decreases-print_call l = l.depth

abbrev pub decreases-print_member : goal.decreases-print_member
decreases-print_member l = l.depth

abbrev pub decreases-print_operation : goal.decreases-print_operation
decreases-print_operation l = l.depth

abbrev pub decreases-print_choice : goal.decreases-print_choice
decreases-print_choice l = l.depth

abbrev pub decreases-print_update : goal.decreases-print_update
decreases-print_update l = l.depth

abbrev pub decreases-print_pair : goal.decreases-print_pair
decreases-print_pair l = l.depth

abbrev pub decreases-print_operands : goal.decreases-print_operands
decreases-print_operands l = l.depth

abbrev pub decreases-print_others : goal.decreases-print_others
decreases-print_others l = l.depth

abbrev pub decreases-print_classes : goal.decreases-print_classes
decreases-print_classes l = l.depth

abbrev pub decreases-print_class : goal.decreases-print_class
decreases-print_class l = l.depth

abbrev pub decreases-print_name : goal.decreases-print_name
decreases-print_name l = l.depth

abbrev pub decreases-print_steps : goal.decreases-print_steps
decreases-print_steps l = l.depth

abbrev pub decreases-print_list : goal.decreases-print_list
decreases-print_list l = l.depth

abbrev pub decreases-print_items : goal.decreases-print_items
decreases-print_items l = l.depth

abbrev pub decreases-print_item : goal.decreases-print_item
decreases-print_item l = l.depth

abbrev pub decreases-print_parts : goal.decreases-print_parts
decreases-print_parts l = l.depth
