use Rattle.vs_explainer.proofs.endings.put_ending.Goals as goal

pub returns-in-Done : goal.returns-in-Done
returns-in-Done g c = rw c.in-Done.is c.put_run.ensures

pub returns-in-Checked : goal.returns-in-Checked
returns-in-Checked g c = rw c.in-Checked.is c.put_checked.ensures

pub returns-in-Ordered : goal.returns-in-Ordered
returns-in-Ordered g c = rw c.in-Ordered.is c.put_course.ensures

pub returns-in-ReadFault : goal.returns-in-ReadFault
returns-in-ReadFault g c = rw c.in-ReadFault.is c.put_read.ensures

pub returns-in-WriteFault : goal.returns-in-WriteFault
returns-in-WriteFault g c = rw c.in-WriteFault.is c.put_write.ensures

pub returns-in-Memory : goal.returns-in-Memory
returns-in-Memory g c = rw c.in-Memory.is c.put_memory.ensures
