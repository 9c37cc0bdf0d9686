use Rattle.block_memory.proofs.layout.+count_cells.Given as goal

abbrev pub decreases-count_cells : goal.decreases-count_cells
decreases-count_cells l = goal.size-count_cells l
